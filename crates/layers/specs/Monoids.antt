-- Conjugation in any monoid.
use Rattle.std.specs.Prelude.{◌≡◌}
use Rattle.std.proofs.Common.{sym, ap, ◌∙◌}

module _ {M : Type 0} (op : M → M → M) (e : M) (assoc : (x y z : M) → op (op x y) z ≡ op x (op y z)) (left : (x : M) → op e x ≡ x) (right : (x : M) → op x e ≡ x) (t t' : M) (there : op t t' ≡ e) (back : op t' t ≡ e) where
  there_then : (x : M) → op t (op t' x) ≡ x
  there_then x = sym (assoc t t' x) ∙ ap (λ y. op y x) there ∙ left x

  back_then : (x : M) → op t' (op t x) ≡ x
  back_then x = sym (assoc t' t x) ∙ ap (λ y. op y x) back ∙ left x

  pub inner_outer : (h : M) → op (op t' (op (op t h) t')) t ≡ h
  inner_outer h = simp (assoc, back, back_then, right)

  pub inner_product : (g h : M) → op (op t' (op g h)) t ≡ op (op (op t' g) t) (op (op t' h) t)
  inner_product g h = simp (assoc, there_then)

  pub inner_unit : op (op t' e) t ≡ e
  inner_unit = simp (back, right)

  pub inner_then : (g : M) → op (op (op t' g) t) t' ≡ op t' g
  inner_then g = simp (assoc, there, right)

  pub inner_inverse : (g k : M) → op k (op (op t' g) t) ≡ e → op (op (op t k) t') g ≡ e
  inner_inverse g k i =
      let c : op (op (op t k) t') g ≡ op t (op (op k (op (op t' g) t)) t') = simp (assoc, there, right) in
      c ∙ ap (λ x. op t (op x t')) i ∙ ap (op t) (left t') ∙ there
