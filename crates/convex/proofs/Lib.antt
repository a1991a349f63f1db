-- spots, forms and regions: half-planes and what they have in common
pub mod Region
-- four points have weights that balance, so four regions of which any three meet have a point in common
pub mod Radon
-- half-planes that meet by twos within a region and by threes have a point in common within the region
pub mod Helly
-- two convex shapes that no side separates have a point in common
pub mod Meet
-- a point strictly inside is strictly below every line that no corner is above
pub mod Below
