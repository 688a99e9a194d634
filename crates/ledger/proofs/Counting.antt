-- Lists of distinct cells, by length.
use Rattle.std.proofs.Common.{◌≡◌, ◌≤◌, List, [], ◌∷◌, length, sym, refl, ◌∙◌, subst, inl, inr, zero-le, arith}
use Rattle.plane.specs.declared.cell.Cell.{Cell}
use Rattle.canvas.specs.Distinct.{Member, Distinct}
use Rattle.canvas.proofs.Listing.{without, length_without, stays}

-- distinct cells, each with a partner in ts that it shares with no other: ts is at least as long
pub at_least : (Rel : Cell → Cell → Type 0) (hs ts : List Cell) → Distinct hs → ((h : Cell) → Member h hs → (t : Cell) × Member t ts × Rel h t) → ((h k t : Cell) → Member h hs → Member k hs → Rel h t → Rel k t → h ≡ k) → length hs ≤ length ts
at_least Rel [] ts d f alone = zero-le
at_least Rel (h ∷ hs) ts d f alone =
    let first = f h (inl refl) in
    let t = first.0 in
    let rest : List Cell = without t ts first.1 in
    let go : (k : Cell) → Member k hs → (s : Cell) × Member s rest × Rel k s = λ k m.
    let g = f k (inr m) in
    let apart : g.0 ≡ t → ⊥ = λ e. d.0 (subst (λ c. Member c hs) (alone k h t (inr m) (inl refl) (subst (Rel k) e g.2) first.2) m) in
    (g.0, stays t ts first.1 g.0 apart g.1, g.2) in
    let shorter : length hs ≤ length rest = at_least Rel hs rest d.1 go (λ k j s mk mj rk rj. alone k j s (inr mk) (inr mj) rk rj) in
    omega (arith, length_without t ts first.1)

-- distinct cells of a list are no more than it has
pub no_longer : (hs ts : List Cell) → Distinct hs → ((h : Cell) → Member h hs → Member h ts) → length hs ≤ length ts
no_longer hs ts d f = at_least (λ h t. h ≡ t) hs ts d (λ h m. (h, f h m, refl)) (λ h k t mh mk e e'. e ∙ sym e')
