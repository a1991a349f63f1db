use Rattle.overlap.proofs.+search.Given as goal

-- each part is searched with one level less
abbrev pub decreases-search : goal.decreases-search
decreases-search l = l.levels
