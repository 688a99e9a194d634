-- What a verdict on a layer says.
use Rattle.std.specs.Prelude.{◌≡◌, ℕ, ◌≤◌, Bool, true, false, Ok, Err, Result, nat_le, refl}
use Rattle.std.proofs.Common.{arith, leb-true}
use Rattle.plane.specs.declared.fold.Extent.{Extent}
use Rattle.plane.specs.Meaning.{Meaning, Alike}
use Rattle.plane.specs.Laws.{Lawful}
use Rattle.layers.specs.declared.refused.LayerRefused.{LayerRefused}
use Rattle.layers.specs.Refusals.{roomy, verdict, judged, made_over, settled}
use Rattle.std.proofs.lemmas.Bool.{and_parts}

pub roomy_is : (e : Extent) → roomy e ≡ true → (1 ≤ e.span) × (e.hem ≤ 1_000_000_000)
roomy_is e t =
    let h = and_parts (nat_le 1 e.span) (nat_le e.hem 1_000_000_000) t in
    (leb-true 1 e.span h.0, leb-true e.hem 1_000_000_000 h.1)

-- an extent that was granted
pub granted : (fair : Bool) (e own : Extent) → judged fair e ≡ Ok own → (fair ≡ true) × (roomy e ≡ true) × (own ≡ e)
granted fair e own = go fair (roomy e)
  where
    go : (f r : Bool) → verdict f r e ≡ Ok own → (f ≡ true) × (r ≡ true) × (own ≡ e)
    go false r q = (cc, cc, cc)
    go true false q = (refl, cc, cc)
    go true true q = (refl, refl, cc)

-- a layer keeps the laws if it keeps them where it is accepted
pub settled_laws : (fair : Bool) (e : Extent) (over below : Meaning) → Lawful below → (fair ≡ true → roomy e ≡ true → Lawful over) → Lawful (settled (judged fair e) over below)
settled_laws fair e over below laws accepted = go fair (roomy e) accepted
  where
    go : (f r : Bool) → (f ≡ true → r ≡ true → Lawful over) → Lawful (settled (verdict f r e) over below)
    go false r h = laws
    go true false h = laws
    go true true h = h refl refl

-- an accepted layer means what the rules give
pub accepted : (r : Result Extent LayerRefused) (own : Extent) → Ok own ≡ r → (over below : Meaning) → Alike (settled r over below) over
accepted (Ok e) own q over below = record { span = refl; hem = refl; home = refl; kinds = refl; into = λ g i. i; back = λ g i. i }
accepted (Err why) own q over below = let z : ◌≡◌ {A = ℕ} 0 1 = cc in absurd (omega arith)

-- and is what its constructor answers
pub answered : {L S : Type 0} (r : Result Extent LayerRefused) (own : Extent) → Ok own ≡ r → (layer : L) (below : S) → Ok layer ≡ made_over r layer below
answered (Ok e) own q layer below = refl
answered (Err why) own q layer below = let z : ◌≡◌ {A = ℕ} 0 1 = cc in absurd (omega arith)
