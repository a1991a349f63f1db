-- Two floors that differ only in where sight ends and what is in reach: a door open and shut (document 01, "Side value and plan check": both faces of a shut
-- door count as wall), a longer reach and a shorter one (document 02, A5).
use Rattle.std.specs.Prelude.{Bool, true, false, ◌≡◌, ℕ, ◌<◌}
use Rattle.fan.specs.Sight.{Floor}
use Rattle.fan.specs.Walk.{Other}

-- the same floor, where sight ends at other faces and others are in reach
abbrev pub ending : Floor → (ℕ → Bool) → (ℕ → ℕ) → Floor
ending F ends far =
    record {
      ends = ends;
      far = far;
      back = F.back;
      next = F.next;
      more = F.more;
      right_end = F.right_end;
      left_end = F.left_end;
      place = F.place;
    }

-- sight ends at the faces that the test names, where it may have gone on; at every other of the N faces nothing changes
pub record Stops (N : ℕ) (F : Floor) (stops ends : ℕ → Bool) (far : ℕ → ℕ) : Type 0 where
  pub stopped : (f : ℕ) → stops f ≡ true → ends f ≡ true
  pub ends_elsewhere : (f : ℕ) → f < N → stops f ≡ false → ends f ≡ F.ends f
  pub far_elsewhere : (f : ℕ) → f < N → stops f ≡ false → far f ≡ F.far f

-- once the door is shut, sight ends at its two faces f₀ and g₀; at every other of the N faces nothing changes. On F, where it is open, sight passes both its
-- faces or, out of reach, ends at both
pub record Shuts (N f₀ g₀ : ℕ) (F : Floor) (once_shut : ℕ → Bool) : Type 0 where
  pub shut_face : once_shut f₀ ≡ true
  pub shut_back : once_shut g₀ ≡ true
  pub elsewhere : (f : ℕ) → f < N → (f ≡ f₀ → ⊥) → (f ≡ g₀ → ⊥) → once_shut f ≡ F.ends f
  pub alike_from_both : F.ends g₀ ≡ F.ends f₀
  -- what is passed is in reach
  pub passed_in_reach : (f : ℕ) → F.ends f ≡ false → F.far f ≡ 0

-- the N faces of a floor: across a free face, and next to a face in its cell, are faces; the sides of a cell differ
pub record Faces (N : ℕ) (F : Floor) : Type 0 where
  pub back_is_a_face : (f : ℕ) → f < N → F.ends f ≡ false → F.back f < N
  pub next_is_a_face : (g : ℕ) → g < N → F.next g < N
  -- the sides of one cell have the same number of sides after them
  pub as_many_sides : (g : ℕ) → g < N → F.more (F.next g) ≡ F.more g
  -- going round from a face, it does not come again among the others
  pub never_itself : (g : ℕ) → g < N → Other F g g → ⊥
