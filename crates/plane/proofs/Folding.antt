-- What an answer of fold says, and how to make one.
use Rattle.std.proofs.Common.{◌≡◌, ℕ, Bool, true, false, ◌&&◌, leb, nat_abs, Ok, Err, sym, refl, ap, ◌∙◌, arith, le-leb, leb-true}
use Rattle.std.proofs.lemmas.Bool.{and_parts, both_ways, false_from_ne_true}
use Rattle.plane.specs.declared.cell.Cell.{Cell}
use Rattle.plane.specs.declared.fold.Fold.{Fold}
use Rattle.plane.specs.declared.fold.FoldRefused.{FoldRefused}
use Rattle.plane.specs.declared.fold.FoldRefused.TheVariants.{OffSpan}
use Rattle.plane.specs.Cells.{inside, Within}
use Rattle.plane.specs.Meaning.{Meaning, answer, folded}
use Rattle.plane.specs.Laws.{Lawful}

pub inside_within : (n : ℕ) (p : Cell) → inside n p ≡ true → Within n p
inside_within n p e =
    let h = and_parts (leb (nat_abs p.x) n) (leb (nat_abs p.y) n) e in
    (leb-true (nat_abs p.x) n h.0, leb-true (nat_abs p.y) n h.1)

pub within_inside : (n : ℕ) (p : Cell) → Within n p → inside n p ≡ true
within_inside n p w = ap (λ b. b && leb (nat_abs p.y) n) (le-leb (nat_abs p.x) n w.0) ∙ le-leb (nat_abs p.y) n w.1

-- a cell beyond the span
pub outside : (n : ℕ) (p : Cell) → inside n p ≡ false → Within n p → ⊥
outside n p e w = both_ways (inside n p) e (within_inside n p w)

pub without_inside : (n : ℕ) (p : Cell) → (Within n p → ⊥) → inside n p ≡ false
without_inside n p h = false_from_ne_true (inside n p) (λ e. h (inside_within n p e))

answered : (b : Bool) (f a : Fold) → Ok a ≡ answer b f → (b ≡ true) × (a ≡ f)
answered true f a e = (refl, cc)
answered false f a e = (cc, cc)

refused : (b : Bool) (f : Fold) (o : FoldRefused) → Err o ≡ answer b f → b ≡ false
refused true f o e = cc
refused false f o e = refl

-- what an answer says
pub record Answered (m : Meaning) (p : Cell) (a : Fold) : Type 0 where
  pub within : Within m.span p
  pub home : a.home ≡ m.home p
  pub kinds : a.kinds ≡ m.kinds p

pub on_ok : (m : Meaning) (p : Cell) (a : Fold) → Ok a ≡ folded m p → Answered m p a
on_ok m p a e =
    let h = answered (inside m.span p) (record { home = m.home p; kinds = m.kinds p }) a e in
    record { within = inside_within m.span p h.0; home = ap (λ (f : Fold). f.home) h.1; kinds = ap (λ (f : Fold). f.kinds) h.1 }

pub on_err : (m : Meaning) (p : Cell) (o : FoldRefused) → Err o ≡ folded m p → Within m.span p → ⊥
on_err m p o e = outside m.span p (refused (inside m.span p) (record { home = m.home p; kinds = m.kinds p }) o e)

-- how to make one
pub make_ok : (m : Meaning) (p : Cell) (a : Fold) → Answered m p a → Ok a ≡ folded m p
make_ok m p a h =
    let f : Fold = record { home = m.home p; kinds = m.kinds p } in
    let e : a ≡ f = λ i. record { home = h.home i; kinds = h.kinds i } in
    ap Ok e ∙ sym (ap (λ b. answer b f) (within_inside m.span p h.within))

pub make_err : (m : Meaning) (p : Cell) → (Within m.span p → ⊥) → Err OffSpan ≡ folded m p
make_err m p h = sym (ap (λ b. answer b (record { home = m.home p; kinds = m.kinds p })) (without_inside m.span p h))

-- a home that was answered is within the bound of every hem
pub near_home : (m : Meaning) → Lawful m → (p : Cell) (a : Fold) → Ok a ≡ folded m p → Within 1_000_000_000 a.home
near_home m laws p a e =
    let h = on_ok m p a e in
    let n = laws.near p h.within in
    (omega (arith, ap (λ (q : Cell). nat_abs q.x) h.home, n.0, laws.hem_high), omega (arith, ap (λ (q : Cell). nat_abs q.y) h.home, n.1, laws.hem_high))
