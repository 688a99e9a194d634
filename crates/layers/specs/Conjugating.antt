-- The laws of a symmetry seen from another frame.
use Rattle.std.specs.Prelude.{◌≡◌, ℕ, ◌≤◌, Bool, true, false, not, ◌⊎◌, ℤ, pos, negsuc, ◌*ℤ◌, refl}
use Rattle.std.proofs.Common.{sym, ap, ◌∙◌, subst, arith}
use Rattle.std.proofs.lemmas.Int.{ints}
use Rattle.plane.specs.declared.cell.Cell.{Cell}
use Rattle.plane.specs.Operation.{Operation, carry, compose, identity, determinant, turned, with_parity, xor}
use Rattle.plane.specs.Cells.{Within}
use Rattle.plane.specs.Meaning.{Meaning}
use Rattle.plane.specs.Laws.{Group, Lawful}
use Rattle.layers.specs.Conjugate.{conjugated}
use Rattle.plane.proofs.Maps.{regroup}
use Rattle.plane.proofs.Algebra.{compose_assoc, carry-compose, carry-identity, identity_left, identity_right, determinant-compose, xor_false}
use Rattle.layers.specs.Monoids.{inner_outer, inner_product, inner_unit, inner_then, inner_inverse}

one_times : (z : ℤ) → z *ℤ pos 1 ≡ z
one_times z = omega (arith, ints)

pub determinant_conjugate : (s s' h : Operation) → compose s s' ≡ identity → determinant (compose (compose s h) s') ≡ determinant h
determinant_conjugate s s' h e =
    determinant-compose (compose s h) s' ∙ ap (λ z. z *ℤ determinant s') (determinant-compose s h) ∙ regroup (determinant s) (determinant h) (determinant s') ∙ ap (λ z. determinant h *ℤ z) (sym (determinant-compose s s') ∙ ap determinant e) ∙ one_times (determinant h)

pub parity_conjugate : (s s' h : Operation) → s.odd ≡ false → s'.odd ≡ false → (compose (compose s h) s').odd ≡ h.odd
parity_conjugate s s' h e e' = ap (λ b. xor (xor b h.odd) s'.odd) e ∙ ap (xor h.odd) e' ∙ xor_false h.odd

turned_parity : (p q r : Bool) → xor (xor p (not q)) r ≡ not (xor (xor p q) r)
turned_parity true true true = refl
turned_parity true true false = refl
turned_parity true false true = refl
turned_parity true false false = refl
turned_parity false true true = refl
turned_parity false true false = refl
turned_parity false false true = refl
turned_parity false false false = refl

turned_conjugate : (s s' g : Operation) → compose (compose s (turned g)) s' ≡ turned (compose (compose s g) s')
turned_conjugate s s' g = ap (λ b. with_parity b (compose (compose s g) s')) (turned_parity s.odd g.odd s'.odd)

module _ (M : Meaning) (laws : Lawful M)
    (t t' : Operation) (there : compose t t' ≡ identity) (back : compose t' t ≡ identity) (even : t.odd ≡ false) (even' : t'.odd ≡ false)
    (go come : Cell → Cell) (goes : (p : Cell) → go p ≡ carry t p) (comes : (p : Cell) → come p ≡ carry t' p)
    (span' hem' : ℕ) (span_low : 1 ≤ span') (span_high : span' ≤ 1_000_000_000) (hem_low : 1 ≤ hem') (hem_high : hem' ≤ 1_000_000_000)
    (into : (p : Cell) → Within span' p → Within M.span (come p)) (out : (p : Cell) → Within M.hem p → Within hem' (go p)) where
  abbrev set : Operation → Type 0
  set = conjugated t t' M.operations

  abbrev inner : Operation → Operation
  inner g = compose (compose t' g) t

  abbrev outer : Operation → Operation
  outer h = compose (compose t h) t'

  outer_in : (h : Operation) → M.operations h → set (outer h)
  outer_in h m = subst M.operations (sym (inner_outer compose identity compose_assoc identity_left identity_right t t' there back h)) m

  come_go : (p : Cell) → come (go p) ≡ p
  come_go p = comes (go p) ∙ ap (carry t') (goes p) ∙ sym (carry-compose t' t p) ∙ ap (λ g. carry g p) back ∙ carry-identity p

  go_come : (p : Cell) → go (come p) ≡ p
  go_come p = goes (come p) ∙ ap (carry t) (comes p) ∙ sym (carry-compose t t' p) ∙ ap (λ g. carry g p) there ∙ carry-identity p

  outer_carries : (h : Operation) (p q : Cell) → carry h (come p) ≡ q → carry (outer h) p ≡ go q
  outer_carries h p q e = carry-compose (compose t h) t' p ∙ carry-compose t h (carry t' p) ∙ ap (λ z. carry t (carry h z)) (sym (comes p)) ∙ ap (carry t) e ∙ sym (goes q)

  inner_carries : (g : Operation) (p q : Cell) → carry g p ≡ q → carry (inner g) (come p) ≡ come q
  inner_carries g p q e = ap (carry (inner g)) (comes p) ∙ sym (carry-compose (inner g) t' p) ∙ ap (λ z. carry z p) (inner_then compose identity compose_assoc identity_left identity_right t t' there back g) ∙ carry-compose t' g p ∙ ap (carry t') e ∙ sym (comes q)

  set_group : Group set
  set_group = record {
    unimodular = λ g i. subst (λ (z : ℤ). (z ≡ pos 1) ⊎ (z ≡ negsuc 0)) (determinant_conjugate t' t g back) (laws.group.unimodular (inner g) i);
    unit = subst M.operations (sym (inner_unit compose identity compose_assoc identity_left identity_right t t' there back)) laws.group.unit;
    closed = λ g h i j. subst M.operations (sym (inner_product compose identity compose_assoc identity_left identity_right t t' there back g h)) (laws.group.closed (inner g) (inner h) i j);
    inverse = λ g i. (outer (laws.group.inverse (inner g) i).0, outer_in (laws.group.inverse (inner g) i).0 (laws.group.inverse (inner g) i).1, inner_inverse compose identity compose_assoc identity_left identity_right t t' there back g (laws.group.inverse (inner g) i).0 (laws.group.inverse (inner g) i).2);
    single = λ g i j. laws.group.single (inner g) i (subst M.operations (turned_conjugate t' t g) j);
  }

  pub conjugate_laws : Lawful (record { operations = set; span = span'; hem = hem'; home = λ p. go (M.home (come p)); kinds = λ p. M.kinds (come p) })
  conjugate_laws = record {
    group = set_group;
    span_low = span_low;
    span_high = span_high;
    hem_low = hem_low;
    hem_high = hem_high;
    near = λ p w. out (M.home (come p)) (laws.near (come p) (into p w));
    carried = λ p w. let c = laws.carried (come p) (into p w) in (outer c.0, outer_in c.0 c.1, outer_carries c.0 p (M.home (come p)) c.2);
    one_home = λ p q v w. (
      λ e. let c = (laws.one_home (come p) (come q) (into p v) (into q w)).0 (sym (come_go (M.home (come p))) ∙ ap come e ∙ come_go (M.home (come q))) in (outer c.0, outer_in c.0 c.1, outer_carries c.0 p (come q) c.2 ∙ go_come q),
      λ c. ap go ((laws.one_home (come p) (come q) (into p v) (into q w)).1 (inner c.0, c.1, inner_carries c.0 p q c.2)),
    );
    exact = λ p w o f. (
      λ k. let c = (laws.exact (come p) (into p w) o f).0 k in (outer c.0, outer_in c.0 c.1, outer_carries c.0 p (M.home (come p)) c.2, parity_conjugate t t' c.0 even even' ∙ c.3, determinant_conjugate t t' c.0 there ∙ c.4),
      λ c. (laws.exact (come p) (into p w) o f).1 (inner c.0, c.1, inner_carries c.0 p (go (M.home (come p))) c.2 ∙ come_go (M.home (come p)), parity_conjugate t' t c.0 even' even ∙ c.3, determinant_conjugate t' t c.0 back ∙ c.4),
    );
  }
