-- One line followed on two floors side by side, where the second stops sight at some faces: a door open and shut, a longer reach and a shorter one. The one
-- induction that shutting, opening and the reach go by.
use mathlib.Core.Bool.{Bool, true, false, true≢false}
use mathlib.Core.List.{List, [], ◌∷◌}
use mathlib.Core.Logic.{◌⊎◌, inl, inr}
use mathlib.Core.Path.{◌≡◌, refl, sym, ◌∙◌, ap}
use Prim.Native.Nat.{ℕ, zero, suc, ◌<◌}
use native.Mathlib.Omega.{arith}
use lib.ListN.{length}
use Rattle.fan.specs.Sight.{Floor, Place, Sight, Standing, fan, follow, hand_on, lines_around, unentered, lines_seen, seen_from}
use Rattle.fan.specs.Sight.Place.{between, right_of_r, left_of_l}
use Rattle.fan.specs.Sight.Sight.{row, pass, both, cut}
use Rattle.fan.specs.Sight.Standing.{inside, within}
use Rattle.fan.specs.Once.{At}
use Rattle.fan.specs.Once.At.{first, later}
use Rattle.fan.specs.Walk.{Among}
use Rattle.fan.specs.Walk.Among.{this, after}
use Rattle.fan.proofs.Trees.{follow_a_wall, follow_too_far, follow_across, fan_last, fan_both, fan_skips, fan_ends}
use Rattle.runs.specs.Door.{is_door}
use Rattle.runs.specs.Floors.{ending, Stops, Shuts, Faces}
use Rattle.runs.proofs.Doors.{door_is_one_of_its_faces, another_is_neither_face}

-- ---- a door

module _ {N f₀ g₀ : ℕ} {F : Floor} {once_shut : ℕ → Bool} (S : Shuts N f₀ g₀ F once_shut) where
  -- while the door is open sight ends at both its faces or passes both
  as_at_its_face : (f : ℕ) → is_door f₀ g₀ f ≡ true → F.ends f ≡ F.ends f₀
  as_at_its_face f e = by_face (door_is_one_of_its_faces f₀ g₀ f e)
    where
      by_face : (f ≡ f₀) ⊎ (f ≡ g₀) → F.ends f ≡ F.ends f₀
      by_face (inl p) = ap F.ends p
      by_face (inr p) = ap F.ends p ∙ S.alike_from_both

  -- a face at which sight does otherwise is no face of it
  no_door_where_unlike : (f : ℕ) → (F.ends f ≡ F.ends f₀ → ⊥) → is_door f₀ g₀ f ≡ false
  no_door_where_unlike f unlike = by_door (is_door f₀ g₀ f) refl
    where
      by_door : (b : Bool) → is_door f₀ g₀ f ≡ b → is_door f₀ g₀ f ≡ false
      by_door true d = absurd (unlike (as_at_its_face f d))
      by_door false d = d

  -- so where sight passes the open door, no end is at it, and where it does not, no passage is
  pub an_end_is_no_door : F.ends f₀ ≡ false → (f : ℕ) → F.ends f ≡ true → is_door f₀ g₀ f ≡ false
  an_end_is_no_door passed f e = no_door_where_unlike f (λ same. true≢false (sym e ∙ same ∙ passed))

  pub a_passage_is_no_door : F.ends f₀ ≡ true → (f : ℕ) → F.ends f ≡ false → is_door f₀ g₀ f ≡ false
  a_passage_is_no_door ended f e = no_door_where_unlike f (λ same. true≢false (sym ended ∙ sym same ∙ e))

  ended_once_shut : (f : ℕ) → is_door f₀ g₀ f ≡ true → once_shut f ≡ true
  ended_once_shut f e = by_face (door_is_one_of_its_faces f₀ g₀ f e)
    where
      by_face : (f ≡ f₀) ⊎ (f ≡ g₀) → once_shut f ≡ true
      by_face (inl p) = ap once_shut p ∙ S.shut_face
      by_face (inr p) = ap once_shut p ∙ S.shut_back

  -- shutting it stops sight at its two faces
  pub shutting_stops : Stops N F (is_door f₀ g₀) once_shut F.far
  shutting_stops =
      record {
        stopped = ended_once_shut;
        ends_elsewhere = λ f h e. let n = another_is_neither_face f₀ g₀ f e in S.elsewhere f h n.0 n.1;
        far_elsewhere = λ f h e. refl;
      }

-- ---- two floors

-- where sight ends has no part in which lines are around the stand, and in which sides a cell has
pub same_lines : (F : Floor) (ends : ℕ → Bool) (far : ℕ → ℕ) (p : Standing) → lines_around (ending F ends far) p ≡ lines_around F p
unfolding lines_around
same_lines F ends far (inside f) = refl
same_lines F ends far (within s) = refl

same_sides : {F : Floor} {ends : ℕ → Bool} {far : ℕ → ℕ} {m f e : ℕ} → Among (ending F ends far) m f e → Among F m f e
same_sides this = this
same_sides (after a) = after (same_sides a)

module _ {N : ℕ} (F : Floor) {stops ends : ℕ → Bool} {far : ℕ → ℕ} (S : Stops N F stops ends far) (A : Faces N F) where
  abbrev F' : Floor
  F' = ending F ends far

  free_before : (f : ℕ) → f < N → ends f ≡ false → F.ends f ≡ false
  free_before f h e = by_test (stops f) refl
    where
      by_test : (b : Bool) → stops f ≡ b → F.ends f ≡ false
      by_test true d = absurd (true≢false (sym (S.stopped f d) ∙ e))
      by_test false d = sym (S.ends_elsewhere f h d) ∙ e

  -- the faces are faces of the floor on which sight is stopped
  pub stopped_faces : Faces N (ending F ends far)
  stopped_faces =
      record {
        back_is_a_face = λ f h e. A.back_is_a_face f h (free_before f h e);
        next_is_a_face = A.next_is_a_face;
        as_many_sides = A.as_many_sides;
        never_itself = λ g h a. A.never_itself g h (same_sides a);
      }

  module _ (P : ℕ → Sight → Sight → Type 0)
      (at_a_row : (n f r l k : ℕ) → stops f ≡ false → P n (row f r l k) (row f r l k))
      (at_a_cut : P zero cut cut)
      (at_a_stop : (n f r l : ℕ) → stops f ≡ true → P n (follow F n f r l) (row f r l (far f)))
      (over_a_passage : (n f r l : ℕ) (t t' : Sight) → stops f ≡ false → P n t t' → P (suc n) (pass f r l t) (pass f r l t'))
      (over_a_split : (n : ℕ) (t t' u u' : Sight) → P n t t' → P n u u' → P n (both t u) (both t' u')) where
    at_an_end : (n f r l : ℕ) → f < N → stops f ≡ false → F.ends f ≡ true → P n (follow F n f r l) (follow F' n f r l)
    at_an_end n f r l h d e =
        rw (follow_a_wall F n f r l e, follow_a_wall F' n f r l (S.ends_elsewhere f h d ∙ e), S.far_elsewhere f h d) (at_a_row n f r l (F.far f) d)

    where_stopped : (n f r l : ℕ) → stops f ≡ true → P n (follow F n f r l) (follow F' n f r l)
    where_stopped n f r l d = rw (follow_a_wall F' n f r l (S.stopped f d)) (at_a_stop n f r l d)

    -- what is so of every line is so of a fan of lines
    fans : (n : ℕ) {on on' : ℕ → ℕ → ℕ → Sight} → ((f r l : ℕ) → f < N → P n (on f r l) (on' f r l)) → (m e r l : ℕ) → e < N
        → P n (fan F on m e r l) (fan F' on' m e r l)
    fans n {on} {on'} lines zero e r l h = rw (fan_last F on e r l, fan_last F' on' e r l) (lines e r l h)
    fans n {on} {on'} lines (suc m) e r l h =
        by_place (λ v. fans n lines m (F.next e) v l (A.next_is_a_face e h)) (F.place (F.left_end e) r l) refl
      where
        by_place : ((v : ℕ) → P n (fan F on m (F.next e) v l) (fan F' on' m (F.next e) v l)) → (p : Place) → F.place (F.left_end e) r l ≡ p
            → P n (fan F on (suc m) e r l) (fan F' on' (suc m) e r l)
        by_place rest between p =
            rw (fan_both F on m e r l p, fan_both F' on' m e r l p)
            (over_a_split n _ _ _ _ (lines e r (F.left_end e) h) (rest (F.left_end e)))
        by_place rest right_of_r p = rw (fan_skips F on m e r l p, fan_skips F' on' m e r l p) (rest r)
        by_place rest left_of_l p = rw (fan_ends F on m e r l p, fan_ends F' on' m e r l p) (lines e r l h)

    side_by_side : (n f r l : ℕ) → f < N → P n (follow F n f r l) (follow F' n f r l)
    unfolding hand_on
    side_by_side zero f r l h = by_test (stops f) refl (F.ends f) refl
      where
        by_test : (c : Bool) → stops f ≡ c → (b : Bool) → F.ends f ≡ b → P zero (follow F zero f r l) (follow F' zero f r l)
        by_test true d b e = where_stopped zero f r l d
        by_test false d true e = at_an_end zero f r l h d e
        by_test false d false e = rw (follow_too_far F f r l e, follow_too_far F' f r l (S.ends_elsewhere f h d ∙ e)) at_a_cut
    side_by_side (suc n) f r l h = by_test (side_by_side n) (stops f) refl (F.ends f) refl
      where
        by_test : ((f r l : ℕ) → f < N → P n (follow F n f r l) (follow F' n f r l)) → (c : Bool) → stops f ≡ c → (b : Bool) → F.ends f ≡ b
            → P (suc n) (follow F (suc n) f r l) (follow F' (suc n) f r l)
        by_test below true d b e = where_stopped (suc n) f r l d
        by_test below false d true e = at_an_end (suc n) f r l h d e
        by_test below false d false e =
            rw (follow_across F n f r l e, follow_across F' n f r l (S.ends_elsewhere f h d ∙ e))
            (over_a_passage n f r l _ _ d (fans n below (F.more (F.back f)) _ r l (A.next_is_a_face _ (A.back_is_a_face f h e))))

    lines_side_by_side : (n : ℕ) (es : List ℕ) → 0 < length es → ((e i : ℕ) → At e es i → e < N) → P n (lines_seen F n es) (lines_seen F' n es)
    unfolding lines_seen
    lines_side_by_side n [] h faces = absurd (omega arith)
    lines_side_by_side n (e ∷ []) h faces = side_by_side n e _ _ (faces e 0 first)
    lines_side_by_side n (e ∷ x ∷ es) h faces =
        over_a_split n _ _ _ _ (side_by_side n e _ _ (faces e 0 first)) (lines_side_by_side n (x ∷ es) (omega arith) (λ y i p. faces y (suc i) (later p)))

    -- what is seen from a stand, side by side
    pub listings_side_by_side :
        (M : ℕ) (p : Standing) → 0 < length (lines_around F p) → ((e i : ℕ) → At e (lines_around F p) i → e < N) →
        P (unentered M p) (seen_from F M p) (seen_from F' M p)
    unfolding seen_from
    listings_side_by_side M p h faces = rw (same_lines F ends far p) (lines_side_by_side (unentered M p) (lines_around F p) h faces)
