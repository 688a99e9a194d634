-- The laws of a counterchanged symmetry.
use Rattle.std.specs.Prelude.{◌≡◌, Bool, true, false, not, refl}
use Rattle.std.proofs.Common.{sym, ap, ◌∙◌, subst}
use Rattle.plane.specs.declared.cell.Cell.{Cell}
use Rattle.plane.specs.declared.kinds.Kinds.{Kinds}
use Rattle.plane.specs.Operation.{Operation, compose, identity, negative, improper, turned, with_parity, Unimodular, xor}
use Rattle.plane.specs.Meaning.{Meaning}
use Rattle.plane.specs.Laws.{Group, Lawful, Carried, CarriedAs}
use Rattle.plane.specs.Kinds.{has}
use Rattle.layers.specs.Counterchange.{twist, exchanged, counterchanged}
use Rattle.plane.proofs.Algebra.{xor_same, improper-compose, negative-sign}

twist-twist : (g : Operation) → twist (twist g) ≡ g
twist-twist g = ap (λ b. with_parity b g) (xor_same g.odd (improper g))

mixed : (p q i j : Bool) → xor (xor p q) (xor i j) ≡ xor (xor p i) (xor q j)
mixed true true true true = refl
mixed true true true false = refl
mixed true true false true = refl
mixed true true false false = refl
mixed true false true true = refl
mixed true false true false = refl
mixed true false false true = refl
mixed true false false false = refl
mixed false true true true = refl
mixed false true true false = refl
mixed false true false true = refl
mixed false true false false = refl
mixed false false true true = refl
mixed false false true false = refl
mixed false false false true = refl
mixed false false false false = refl

twist-compose : (g h : Operation) → Unimodular g → Unimodular h → twist (compose g h) ≡ compose (twist g) (twist h)
twist-compose g h ug uh = ap (λ b. with_parity b (compose g h)) (ap (λ b. xor (xor g.odd h.odd) b) (improper-compose g h ug uh) ∙ mixed g.odd h.odd (improper g) (improper h))

not_xor : (p q : Bool) → xor (not p) q ≡ not (xor p q)
not_xor true true = refl
not_xor true false = refl
not_xor false true = refl
not_xor false false = refl

twist-turned : (g : Operation) → twist (turned g) ≡ turned (twist g)
twist-turned g = ap (λ b. with_parity b g) (not_xor g.odd (improper g))

has-exchanged : (k : Kinds) (o f : Bool) → has (exchanged k) o f ≡ has k (xor o f) f
has-exchanged k true true = refl
has-exchanged k true false = refl
has-exchanged k false true = refl
has-exchanged k false false = refl

module _ (M : Meaning) (laws : Lawful M) where
  abbrev twisted : Operation → Type 0
  twisted g = M.operations (twist g)

  up_carried : (p q : Cell) → Carried M.operations p q → Carried twisted p q
  up_carried p q h = (twist h.0, subst M.operations (sym (twist-twist h.0)) h.1, h.2)

  down_carried : (p q : Cell) → Carried twisted p q → Carried M.operations p q
  down_carried p q h = (twist h.0, h.1, h.2)

  up_as : (o f : Bool) (p q : Cell) → CarriedAs M.operations (xor o f) f p q → CarriedAs twisted o f p q
  up_as o f p q h = (twist h.0, subst M.operations (sym (twist-twist h.0)) h.1, h.2, ap (λ b. xor b (improper h.0)) h.3 ∙ ap (xor (xor o f)) (ap negative h.4 ∙ negative-sign f) ∙ xor_same o f, h.4)

  down_as : (o f : Bool) (p q : Cell) → CarriedAs twisted o f p q → CarriedAs M.operations (xor o f) f p q
  down_as o f p q h = (twist h.0, h.1, h.2, ap (λ b. xor b (improper h.0)) h.3 ∙ ap (xor o) (ap negative h.4 ∙ negative-sign f), h.4)

  twisted_group : Group twisted
  twisted_group = record {
    unimodular = λ g m. laws.group.unimodular (twist g) m;
    unit = laws.group.unit;
    closed = λ g h m n. subst M.operations (sym (twist-compose g h (laws.group.unimodular (twist g) m) (laws.group.unimodular (twist h) n))) (laws.group.closed (twist g) (twist h) m n);
    inverse = inverse;
    single = λ g m n. laws.group.single (twist g) m (subst M.operations (twist-turned g) n);
  }
    where
      inverse : (g : Operation) → twisted g → (h : Operation) × twisted h × (compose h g ≡ identity)
      inverse g m =
          let i = laws.group.inverse (twist g) m in
          let k : Operation = i.0 in
          (twist k, subst M.operations (sym (twist-twist k)) i.1, ap (λ z. compose (twist k) z) (sym (twist-twist g)) ∙ sym (twist-compose k (twist g) (laws.group.unimodular k i.1) (laws.group.unimodular (twist g) m)) ∙ ap twist i.2)

  pub counterchange_laws : Lawful (counterchanged M)
  counterchange_laws = record {
    group = twisted_group;
    span_low = laws.span_low;
    span_high = laws.span_high;
    hem_low = laws.hem_low;
    hem_high = laws.hem_high;
    near = laws.near;
    carried = λ p w. up_carried p (M.home p) (laws.carried p w);
    one_home = λ p q v w. (λ e. up_carried p q ((laws.one_home p q v w).0 e), λ h. (laws.one_home p q v w).1 (down_carried p q h));
    exact = λ p w o f. (λ e. up_as o f p (M.home p) ((laws.exact p w (xor o f) f).0 (sym (has-exchanged (M.kinds p) o f) ∙ e)), λ h. has-exchanged (M.kinds p) o f ∙ (laws.exact p w (xor o f) f).1 (down_as o f p (M.home p) h));
  }
