-- The loops that build the table of lines: the faces drawn, and then the doors passed, so far.
use mathlib.Core.Bool.{Bool, true, false, ◌||◌}
use mathlib.Core.List.{List, []}
use mathlib.Core.Path.{◌≡◌, refl, sym, ap, ◌∙◌}
use Prim.Native.Nat.{ℕ, ◌+◌, ◌*◌, ◌-◌, ◌<◌, ◌≤◌}
use native.Mathlib.Decide.{dec_lt, ℕ_discrete}
use native.Mathlib.Omega.{arith}
use borrow.Author.Tests.{eq-eqb, lt-ltb, le-ltb}
use lib.Dec.{eqb, ltb}
use lib.ListN.{length, get_or, set, length-set}
use lib.Seq.{get_or-set_same, get_or-set_other}
use lib.IntN.{ℤ}
use Rattle.limits.specs.Limits.{wall}
use Rattle.cells.specs.Least.{least}
use Rattle.cells.specs.Lists.{Cells, face_count, side_count, home, next, start, neighbour, back}
use Rattle.cells.specs.Check.{names}
use Rattle.setting.specs.Setting.{shut, bars, ends}
use Rattle.cells.specs.Sound.{Sound}
use Rattle.cells.proofs.Least.{not_both, holds_at_least, none_holds}
use Rattle.cells.proofs.Neighbours.{or_true}
use Rattle.cells.proofs.Doors.{names_the_face, names_the_back, names_neither}
use Rattle.cells.proofs.Plans.{back_exists, back_of_back, door_exists, door_is_free}
use Rattle.setting.proofs.Settings.{an_open_door_bars_nothing, a_door_elsewhere_bars_nothing, sight_ends_at_a_wall, sight_passes_elsewhere}
use Rattle.lines.specs.Lined.{across, Drawn, Lined, with_face, shut_line}

-- ---- what is across a face

module _ (T : Cells) (ds : List ℕ) (w f : ℕ) where
  pub across_where_sight_ends : ends T ds w f ≡ true → across T ds w f ≡ wall
  unfolding across
  across_where_sight_ends e = rw (e, across)

  pub across_where_sight_passes : ends T ds w f ≡ false → across T ds w f ≡ back T f
  unfolding across
  across_where_sight_passes e = rw (e, across)

  pub across_a_wall : neighbour T f ≡ wall → across T ds w f ≡ wall
  across_a_wall h = across_where_sight_ends (sight_ends_at_a_wall T ds w f h)

-- without doors sight passes wherever there is no wall
pub across_without_doors : (T : Cells) (f : ℕ) → (neighbour T f ≡ wall → ⊥) → across T [] 0 f ≡ back T f
across_without_doors T f free =
    across_where_sight_passes T [] 0 f (sight_passes_elsewhere T [] 0 f free (λ e h. absurd (omega arith)))

-- ---- one face more is drawn

module _ {T : Cells} {a : ℕ → ℕ} {ls : List ℕ} {n : ℕ} (d : Drawn T a n ls) (h : n < face_count T) (e x m k : ℕ) where
  abbrev new : List ℕ
  new = with_face ls n e x m k

  abbrev one : List ℕ
  one = set ls (4 * n) e

  abbrev two : List ℕ
  two = set one (4 * n + 1) x

  abbrev three : List ℕ
  three = set two (4 * n + 2) m

  lengths : (length one ≡ 4 * face_count T) × (length two ≡ 4 * face_count T) × (length three ≡ 4 * face_count T)
  lengths =
      let a = length-set ls (4 * n) e ∙ d.whole in
      let b = length-set one (4 * n + 1) x ∙ a in
      (a, b, length-set two (4 * n + 2) m ∙ b)

  -- the four numbers of face n
  here : (get_or new (4 * n) 0 ≡ e) × (get_or new (4 * n + 1) 0 ≡ x) × (get_or new (4 * n + 2) 0 ≡ m) × (get_or new (4 * n + 3) 0 ≡ k)
  unfolding with_face
  here = (
    before (4 * n) (λ j. omega arith) (λ j. omega arith) ∙ get_or-set_other one (4 * n + 1) (4 * n) x 0 (λ j. omega arith) ∙ get_or-set_same ls (4 * n) e 0 (omega (arith, d.whole)),
    before (4 * n + 1) (λ j. omega arith) (λ j. omega arith) ∙ get_or-set_same one (4 * n + 1) x 0 (omega (arith, lengths.0)),
    get_or-set_other three (4 * n + 3) (4 * n + 2) k 0 (λ j. omega arith) ∙ get_or-set_same two (4 * n + 2) m 0 (omega (arith, lengths.1)),
    get_or-set_same three (4 * n + 3) k 0 (omega (arith, lengths.2)),
  )
    where
      before : (i : ℕ) → (i ≡ 4 * n + 3 → ⊥) → (i ≡ 4 * n + 2 → ⊥) → get_or (set three (4 * n + 3) k) i 0 ≡ get_or two i 0
      before i a b = get_or-set_other three (4 * n + 3) i k 0 a ∙ get_or-set_other two (4 * n + 2) i m 0 b

  -- every number before them stays
  elsewhere_stays : (i : ℕ) → i < 4 * n → get_or new i 0 ≡ get_or ls i 0
  unfolding with_face
  elsewhere_stays i l =
      get_or-set_other three (4 * n + 3) i k 0 (λ j. omega arith)
      ∙ get_or-set_other two (4 * n + 2) i m 0 (λ j. omega arith)
      ∙ get_or-set_other one (4 * n + 1) i x 0 (λ j. omega arith)
      ∙ get_or-set_other ls (4 * n) i e 0 (λ j. omega arith)

  pub drawn_goes_on : e ≡ start T (next T n) → x ≡ a n → m ≡ side_count T (home T n) - 2 → k ≡ next T n → Drawn T a (n + 1) new
  unfolding with_face
  drawn_goes_on is_e is_x is_m is_k =
      record {
        whole = length-set three (4 * n + 3) k ∙ lengths.2;
        end_stands = λ f l. by_place (λ i. 4 * i) (λ i. start T (next T i)) (λ i b. omega arith) d.end_stands (here.0 ∙ is_e) f l (dec_lt f n);
        across_stands = λ f l. by_place (λ i. 4 * i + 1) a (λ i b. omega arith) d.across_stands (here.1 ∙ is_x) f l (dec_lt f n);
        more_stands = λ f l. by_place (λ i. 4 * i + 2) (λ i. side_count T (home T i) - 2) (λ i b. omega arith) d.more_stands (here.2 ∙ is_m) f l (dec_lt f n);
        next_stands = λ f l. by_place (λ i. 4 * i + 3) (next T) (λ i b. omega arith) d.next_stands (here.3 ∙ is_k) f l (dec_lt f n);
      }
    where
      by_place : (at is : ℕ → ℕ) → ((i : ℕ) → i < n → at i < 4 * n) → ((i : ℕ) → i < n → get_or ls (at i) 0 ≡ is i) → get_or new (at n) 0 ≡ is n → (f : ℕ) → f < n + 1 → Dec (f < n) → get_or new (at f) 0 ≡ is f
      by_place at is below before last f l (yes b) = elsewhere_stays (at f) (below f b) ∙ before f b
      by_place at is below before last f l (no b) = let same : f ≡ n = omega arith in rw same last

pub drawn_begins : {T : Cells} {a : ℕ → ℕ} {ls : List ℕ} → length ls ≡ 4 * face_count T → Drawn T a 0 ls
drawn_begins h =
    record {
      whole = h;
      end_stands = λ f l. absurd (omega arith);
      across_stands = λ f l. absurd (omega arith);
      more_stands = λ f l. absurd (omega arith);
      next_stands = λ f l. absurd (omega arith);
    }

-- what is across the faces may be told anew
pub across_told : {T : Cells} {a b : ℕ → ℕ} {n : ℕ} {ls : List ℕ} → Drawn T a n ls → ((f : ℕ) → f < n → a f ≡ b f) → Drawn T b n ls
across_told d same =
    record {
      whole = d.whole;
      end_stands = d.end_stands;
      across_stands = λ f h. d.across_stands f h ∙ same f h;
      more_stands = d.more_stands;
      next_stands = d.next_stands;
    }

-- ---- a test holds at one of the first n places

unfoldable pub some : (ℕ → Bool) → ℕ → Bool
some t n = ltb (least t n 0) n

module _ (t : ℕ → Bool) (n : ℕ) where
  some_with_the_last : t n ≡ true → some t (n + 1) ≡ true
  unfolding some
  some_with_the_last e = by_place (dec_lt (least t (n + 1) 0) (n + 1))
    where
      by_place : Dec (least t (n + 1) 0 < n + 1) → ltb (least t (n + 1) 0) (n + 1) ≡ true
      by_place (yes h) = lt-ltb _ _ h
      by_place (no h) = absurd (not_both e (none_holds t (n + 1) (omega arith) n (omega arith)))

  some_before_the_last : t n ≡ false → some t (n + 1) ≡ some t n
  unfolding some
  some_before_the_last e = by_places (dec_lt (least t (n + 1) 0) (n + 1)) (dec_lt (least t n 0) n)
    where
      at_or_before : t (least t (n + 1) 0) ≡ true → least t (n + 1) 0 < n + 1 → n ≤ least t n 0 → Dec (least t (n + 1) 0 ≡ n) → ⊥
      at_or_before k h l (yes same) = not_both (ap t (sym same) ∙ k) e
      at_or_before k h l (no other) = not_both k (none_holds t n l (least t (n + 1) 0) (omega arith))

      by_places : Dec (least t (n + 1) 0 < n + 1) → Dec (least t n 0 < n) → ltb (least t (n + 1) 0) (n + 1) ≡ ltb (least t n 0) n
      by_places (yes h) (yes k) = lt-ltb _ _ h ∙ sym (lt-ltb _ _ k)
      by_places (yes h) (no k) = absurd (at_or_before (holds_at_least t (n + 1) 0 (omega arith)) h (omega arith) (ℕ_discrete (least t (n + 1) 0) n))
      by_places (no h) (yes k) = absurd (not_both (holds_at_least t n 0 (omega arith)) (none_holds t (n + 1) (omega arith) (least t n 0) (omega arith)))
      by_places (no h) (no k) = le-ltb (least t (n + 1) 0) (n + 1) (omega arith) ∙ sym (le-ltb (least t n 0) n (omega arith))

-- ---- what is across a face where only the first n doors count

unfoldable pub across_by : Cells → List ℕ → ℕ → ℕ → ℕ → ℕ
across_by T ds w n f = elim (eqb (neighbour T f) wall || some (bars ds w f (back T f)) n) [ true ↦ wall | false ↦ back T f ]

module _ (T : Cells) (ds : List ℕ) (w f : ℕ) where
  by_no_door : across T [] 0 f ≡ across_by T ds w 0 f
  unfolding across across_by ends some least
  by_no_door = refl

  by_every_door : across_by T ds w (length ds) f ≡ across T ds w f
  unfolding across across_by ends some
  by_every_door = refl

  by_wall : (n : ℕ) → neighbour T f ≡ wall → across_by T ds w n f ≡ wall
  unfolding across_by
  by_wall n h = rw (eq-eqb _ _ h, across_by)

  by_the_last_door : (n : ℕ) → shut w n ≡ true → names ds f (back T f) n ≡ true → across_by T ds w (n + 1) f ≡ wall
  unfolding across_by bars
  by_the_last_door n s k =
      let e : (eqb (neighbour T f) wall || some (bars ds w f (back T f)) (n + 1)) ≡ true =
      ap (λ (b : Bool). eqb (neighbour T f) wall || b) (some_with_the_last (bars ds w f (back T f)) n (simp (s, k))) ∙ or_true (eqb (neighbour T f) wall)
      in rw (e, across_by)

  by_the_doors_before : (n : ℕ) → bars ds w f (back T f) n ≡ false → across_by T ds w (n + 1) f ≡ across_by T ds w n f
  unfolding across_by
  by_the_doors_before n e = rw (some_before_the_last (bars ds w f (back T f)) n e, across_by)

-- ---- the first n doors are passed

abbrev pub Marked : Cells → List ℕ → ℕ → ℕ → List ℕ → Type 0
Marked T ds w n ls = Drawn T (across_by T ds w n) (face_count T) ls

pub marks_begin : {T : Cells} {ls : List ℕ} (ds : List ℕ) (w : ℕ) → Lined T [] 0 ls → Marked T ds w 0 ls
marks_begin {T} ds w k = across_told k (λ f h. by_no_door T ds w f)

pub marks_end : {T : Cells} {ls : List ℕ} (ds : List ℕ) (w n : ℕ) → Marked T ds w n ls → n ≡ length ds → Lined T ds w ls
marks_end {T} ds w n k e = across_told k (λ f h. ap (λ (n : ℕ). across_by T ds w n f) e ∙ by_every_door T ds w f)

pub past_an_open_door : {T : Cells} {ls : List ℕ} (ds : List ℕ) (w n : ℕ) → Marked T ds w n ls → shut w n ≡ false → Marked T ds w (n + 1) ls
past_an_open_door {T} ds w n k e =
    across_told k (λ f h. sym (by_the_doors_before T ds w f n (an_open_door_bars_nothing ds w f (back T f) n e)))

module _ {cs : List ℤ} {T : Cells} {ds ls : List ℕ} (w n : ℕ) (sound : Sound cs T ds) (here : n < length ds) (k : Marked T ds w n ls) (s : shut w n ≡ true) where
  abbrev d : ℕ
  d = get_or ds n 0

  abbrev g : ℕ
  g = back T d

  g_below : g < face_count T
  g_below = back_exists sound d (door_exists sound n here) (door_is_free sound n here)

  again : back T g ≡ d
  again = back_of_back sound d (door_exists sound n here) (door_is_free sound n here)

  -- at a face of neither side of the door the doors before decide
  elsewhere : (f : ℕ) → f < face_count T → (f ≡ d → ⊥) → (f ≡ g → ⊥) → across_by T ds w n f ≡ across_by T ds w (n + 1) f
  elsewhere f h not_d not_g = by_neighbour (ℕ_discrete (neighbour T f) wall)
    where
      by_neighbour : Dec (neighbour T f ≡ wall) → across_by T ds w n f ≡ across_by T ds w (n + 1) f
      by_neighbour (yes e) = by_wall T ds w f n e ∙ sym (by_wall T ds w f (n + 1) e)
      by_neighbour (no free) =
          sym (by_the_doors_before T ds w f n (a_door_elsewhere_bars_nothing ds w f (back T f) n
          (names_neither ds f (back T f) n (λ e. not_d (sym e)) (λ e. not_g (sym (ap (back T) e ∙ back_of_back sound f h free))))))

  -- a number that is no face's across stays
  besides : (i : ℕ) → (i ≡ 4 * d + 1 → ⊥) → (i ≡ 4 * g + 1 → ⊥) → get_or (set (set ls (4 * d + 1) wall) (4 * g + 1) wall) i 0 ≡ get_or ls i 0
  besides i not_d not_g =
      get_or-set_other (set ls (4 * d + 1) wall) (4 * g + 1) i wall 0 not_g ∙ get_or-set_other ls (4 * d + 1) i wall 0 not_d

  pub past_a_shut_door : Marked T ds w (n + 1) (shut_line T d ls)
  unfolding shut_line
  past_a_shut_door =
      record {
        whole = length-set (set ls (4 * d + 1) wall) (4 * g + 1) wall ∙ length-set ls (4 * d + 1) wall ∙ k.whole;
        end_stands = λ f h. besides (4 * f) (λ e. omega arith) (λ e. omega arith) ∙ k.end_stands f h;
        across_stands = λ f h. by_side f h (ℕ_discrete f d) (ℕ_discrete f g);
        more_stands = λ f h. besides (4 * f + 2) (λ e. omega arith) (λ e. omega arith) ∙ k.more_stands f h;
        next_stands = λ f h. besides (4 * f + 3) (λ e. omega arith) (λ e. omega arith) ∙ k.next_stands f h;
      }
    where
      by_side : (f : ℕ) → f < face_count T → Dec (f ≡ d) → Dec (f ≡ g) → get_or (set (set ls (4 * d + 1) wall) (4 * g + 1) wall) (4 * f + 1) 0 ≡ across_by T ds w (n + 1) f
      by_side f h not_asked (yes e) =
          ap (λ (f : ℕ). get_or (set (set ls (4 * d + 1) wall) (4 * g + 1) wall) (4 * f + 1) 0) e
          ∙ get_or-set_same (set ls (4 * d + 1) wall) (4 * g + 1) wall 0 (omega (arith, g_below, k.whole, length-set ls (4 * d + 1) wall))
          ∙ sym (by_the_last_door T ds w f n s (names_the_back ds f (back T f) n (sym (ap (back T) e ∙ again))))
      by_side f h (yes e) (no not_g) =
          get_or-set_other (set ls (4 * d + 1) wall) (4 * g + 1) (4 * f + 1) wall 0 (λ k. not_g (omega arith))
          ∙ ap (λ (f : ℕ). get_or (set ls (4 * d + 1) wall) (4 * f + 1) 0) e
          ∙ get_or-set_same ls (4 * d + 1) wall 0 (omega (arith, door_exists sound n here, k.whole))
          ∙ sym (by_the_last_door T ds w f n s (names_the_face ds f (back T f) n (sym e)))
      by_side f h (no not_d) (no not_g) = besides (4 * f + 1) (λ e. not_d (omega arith)) (λ e. not_g (omega arith)) ∙ k.across_stands f h ∙ elsewhere f h not_d not_g
