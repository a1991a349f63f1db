-- Going round a cell: its faces are numbered one after another, so the side k sides after a face is that many numbers on, or wraps round once.
use mathlib.Core.Path.{◌≡◌, refl, sym, ◌∙◌, ap, subst}
use Prim.Native.Nat.{ℕ, zero, suc, ◌+◌, ◌-◌, ◌≤◌, ◌<◌}
use native.Mathlib.Decide.{dec_lt}
use native.Mathlib.Omega.{arith}
use Rattle.cells.specs.Lists.{Cells, cell_count, face_count, first, side_count, home, next}
use Rattle.cells.specs.Sound.{Numbered}
use Rattle.cells.proofs.Faces.{SideOf, home_exists, side_of_home, next_goes_on, next_comes_round, next_is_a_side}
use Rattle.fan.specs.Sight.{Floor}
use Rattle.fan.specs.Walk.{Among, Other}
use Rattle.fan.specs.Walk.Among.{this, after}
use Rattle.fan.proofs.Geometry.{around}

-- a floor whose sides follow each other as the cells' do
module _ {T : Cells} (N : Numbered T) (F : Floor) (same : (f : ℕ) → F.next f ≡ next T f) where
  -- ---- steps

  -- one step more at the end is one more at the beginning
  next_of_around : (m e : ℕ) → F.next (around F m e) ≡ around F m (F.next e)
  unfolding around
  next_of_around zero e = refl
  next_of_around (suc m) e = next_of_around m (F.next e)

  -- what is among the sides from e on is some steps after e
  record Steps (m e f : ℕ) : Type 0 where
    count : ℕ
    few : count ≤ m
    there : around F count e ≡ f

  steps : {m e f : ℕ} → Among F m e f → Steps m e f
  unfolding around
  steps this = record { count = zero; few = omega arith; there = refl }
  steps (after i) = let s = steps i in record { count = suc s.count; few = omega (arith, s.few); there = s.there }

  -- ---- places

  module _ {c : ℕ} (h : c < cell_count T) where
    abbrev begin : ℕ
    begin = first T c

    abbrev end : ℕ
    end = first T (suc c)

    wide : begin + 3 ≤ end
    wide = N.at_least c h

    at_begin : SideOf T c begin
    at_begin = record { not_before = omega arith; not_after = omega (arith, wide) }

    record Place (k e : ℕ) : Type 0 where
      goes_on : e + k < end → around F k e ≡ e + k
      comes_round : end ≤ e + k → around F k e + end ≡ e + k + begin

    place : (k e : ℕ) → SideOf T c e → k + begin ≤ end → Place k e
    unfolding around
    place zero e s l = record { goes_on = λ b. omega arith; comes_round = λ b. absurd (omega (arith, s.not_after)) }
    place (suc k) e s l = by_place (λ f t. place k f t (omega arith)) (dec_lt (suc e) end)
      where
        by_place : ((f : ℕ) → SideOf T c f → Place k f) → Dec (suc e < end) → Place (suc k) e
        by_place rest (yes b) =
            let t : SideOf T c (suc e) = record { not_before = omega (arith, s.not_before); not_after = b } in
            let p = rest (suc e) t in
            let on : F.next e ≡ suc e = same e ∙ next_goes_on N h s b in
            record {
              goes_on = λ m. ap (around F k) on ∙ p.goes_on (omega arith) ∙ omega arith;
              comes_round = λ m. ap (λ (x : ℕ). around F k x + end) on ∙ p.comes_round (omega arith) ∙ omega arith;
            }
        by_place rest (no b) =
            let p = rest begin at_begin in
            let last : suc e ≡ end = omega (arith, s.not_after) in
            let on : F.next e ≡ begin = same e ∙ next_comes_round N h s last in
            record {
              goes_on = λ m. absurd (omega arith);
              comes_round = λ m. ap (λ (x : ℕ). around F k x + end) on ∙ ap (λ (x : ℕ). x + end) (p.goes_on (omega arith)) ∙ omega arith;
            }

    -- after as many steps as the cell has sides the side comes round, and not before
    pub comes_back : (e : ℕ) → SideOf T c e → around F (side_count T c) e ≡ e
    comes_back e s = let r = (place (side_count T c) e s (omega (arith, wide))).comes_round (omega (arith, s.not_before, wide)) in omega (arith, r, wide)

    not_back_before : (k e : ℕ) → SideOf T c e → 0 < k → k < side_count T c → around F k e ≡ e → ⊥
    not_back_before k e s l m back = by_place (dec_lt (e + k) end)
      where
        p : Place k e
        p = place k e s (omega (arith, wide))

        by_place : Dec (e + k < end) → ⊥
        by_place (yes b) = omega (arith, p.goes_on b)
        by_place (no b) = omega (arith, p.comes_round (omega arith), wide)

    pub among_is_a_side : {m e f : ℕ} → SideOf T c e → Among F m e f → SideOf T c f
    among_is_a_side s this = s
    among_is_a_side {e = e} s (after i) = among_is_a_side (subst (SideOf T c) (sym (same e)) (next_is_a_side N h s)) i

  -- ---- as the laws of sight ask for it

  module _ (more : (f : ℕ) → F.more f ≡ side_count T (home T f) - 2) (g : ℕ) (h : g < face_count T) where
    three : 3 ≤ side_count T (home T g)
    three = omega (arith, N.at_least (home T g) (home_exists N g h))

    pub never_itself : Other F g g → ⊥
    unfolding around
    never_itself i =
        let s = steps i in
        not_back_before (home_exists N g h) (suc s.count) g (side_of_home N g h) (omega arith) (omega (arith, s.few, more g, three)) s.there

    pub comes_round : F.next (around F (F.more g) (F.next g)) ≡ g
    unfolding around
    comes_round =
        let all : suc (suc (F.more g)) ≡ side_count T (home T g) = omega (arith, more g, three) in
        next_of_around (F.more g) (F.next g)
        ∙ ap (λ (m : ℕ). around F m g) all
        ∙ comes_back (home_exists N g h) g (side_of_home N g h)
