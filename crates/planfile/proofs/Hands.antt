-- Lists handed over, way out by way out: what was found, and the reply with the lists that are left.
use mathlib.Core.Bool.{Bool, true, false}
use mathlib.Core.List.{List}
use mathlib.Core.Path.{◌≡◌, refl, sym, ap, ap₂, ◌∙◌}
use Prim.Native.Nat.{ℕ, ◌<◌, ◌≤◌}
use borrow.Author.Tests.{le-leb, lt-leb}
use lib.ListN.{length}
use lib.Seq.{sets}
use lib.IntN.{ℤ}
use Rattle.limits.specs.declared.Plan.{Plan}
use Rattle.limits.specs.declared.Refusal.{Refusal}
use Rattle.limits.specs.declared.Refusal.TheVariants.{Room}
use Rattle.planfile.specs.Calls.{given_room, has_room, lists_left}
use Rattle.planfile.proofs.Accepts.{refused_stays}
use Rattle.std.specs.Prelude.{Err, Ok, Result}

module _ {reply said : Result Plan Refusal} (is_reply : reply ≡ said) (cs : List ℤ) (ts ds : List ℕ) (corners : List ℤ) (cells doors : List ℕ) where
  abbrev room : Bool
  room = has_room cs ts ds (length corners) (length cells) (length doors)

  abbrev Handed : Result Plan Refusal → List ℤ → List ℕ → List ℕ → Type 0
  Handed r x y z = (r ≡ given_room room said) × ((x, (y, z)) ≡ lists_left r cs ts ds corners cells doors)

  pub not_accepted : {r : Refusal} → reply ≡ Err r → Handed (Err r) corners cells doors
  not_accepted {r} e = (sym (ap (given_room room) (sym is_reply ∙ e) ∙ refused_stays room r), refl)

  module _ {p : Plan} (e : reply ≡ Ok p) where
    no_room : room ≡ false → Handed (Err Room) corners cells doors
    no_room h = (sym (ap₂ given_room h (sym is_reply ∙ e)), refl)

    pub no_room_for_corners : length corners < length cs → Handed (Err Room) corners cells doors
    no_room_for_corners h = no_room (simp (lt-leb _ _ h))

    module _ (a : length cs ≤ length corners) where
      pub no_room_for_cells : length cells < length ts → Handed (Err Room) corners cells doors
      no_room_for_cells h = no_room (simp (le-leb _ _ a, lt-leb _ _ h))

      module _ (b : length ts ≤ length cells) where
        pub no_room_for_doors : length doors < length ds → Handed (Err Room) corners cells doors
        no_room_for_doors h = no_room (simp (le-leb _ _ a, le-leb _ _ b, lt-leb _ _ h))

        pub all_handed : length ds ≤ length doors → {x : List ℤ} {y z : List ℕ} → x ≡ sets corners 0 cs → y ≡ sets cells 0 ts → z ≡ sets doors 0 ds → Handed (Ok p) x y z
        all_handed c {x} {y} {z} f g h =
            let there : room ≡ true = simp (le-leb _ _ a, le-leb _ _ b, le-leb _ _ c) in (
              sym (ap₂ given_room there (sym is_reply ∙ e)),
              ap₂ (λ (l : List ℤ) (m : List ℕ × List ℕ). (l, m)) f (ap₂ (λ (l m : List ℕ). (l, m)) g h),
            )
