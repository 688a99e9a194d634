-- Tests over lists, lifted to each member.
use Rattle.std.specs.Prelude.{◌≡◌, ℕ, zero, suc, ◌/◌, ◌%◌, ◌<◌, Bool, true, false, ◌&&◌, ◌⊎◌, List, [], ◌∷◌, ℤ, pos, negsuc, ◌+ℤ◌, neg_ℤ, ◌==◌, unsigned_abs, refl}
use Rattle.std.proofs.Common.{sym, ap, ◌∙◌, inl, inr, arith, eqb-true}
use Rattle.std.proofs.lemmas.Int.{ints}
use Rattle.std.proofs.lemmas.Bool.{and_parts, both_ways, eqb-false, or_cases, or_left, or_right}
use Rattle.groups.specs.Lists.{In, some, every}

module _ {A : Type 0} where
  pub every_in : (f : A → Bool) (xs : List A) → every f xs ≡ true → (a : A) → In a xs → f a ≡ true
  every_in f [] t a i = absurd i
  every_in f (x ∷ xs) t a (inl e) = ap f e ∙ (and_parts (f x) (every f xs) t).0
  every_in f (x ∷ xs) t a (inr i) = every_in f xs (and_parts (f x) (every f xs) t).1 a i

  pub some_in : (f : A → Bool) (xs : List A) → some f xs ≡ true → (a : A) × In a xs × (f a ≡ true)
  some_in f [] t = absurd (both_ways false refl t)
  some_in f (x ∷ xs) t = go (some_in f xs) (or_cases (f x) (some f xs) t)
    where
      go : (some f xs ≡ true → (a : A) × In a xs × (f a ≡ true)) → (f x ≡ true) ⊎ (some f xs ≡ true) → (a : A) × In a (x ∷ xs) × (f a ≡ true)
      go h (inl t) = (x, inl refl, t)
      go h (inr t) = let r = h t in (r.0, inr r.1, r.2)

  pub in_some : (f : A → Bool) (xs : List A) (a : A) → In a xs → f a ≡ true → some f xs ≡ true
  in_some f [] a i t = absurd i
  in_some f (x ∷ xs) a (inl e) t = or_left (f x) (some f xs) (ap f (sym e) ∙ t)
  in_some f (x ∷ xs) a (inr i) t = or_right (f x) (some f xs) (in_some f xs a i t)

-- a test at each number below n
abbrev pub every_below : (ℕ → Bool) → ℕ → Bool
every_below f zero = true
every_below f (suc n) = f n && every_below f n

pub below_in : (f : ℕ → Bool) (n : ℕ) → every_below f n ≡ true → (k : ℕ) → k < n → f k ≡ true
below_in f zero t k h = absurd (omega arith)
below_in f (suc n) t k h = go (below_in f n (and_parts (f n) (every_below f n) t).1 k) (k == n) refl
  where
    go : (k < n → f k ≡ true) → (b : Bool) → (k == n) ≡ b → f k ≡ true
    go below true e = ap f (eqb-true k n e) ∙ (and_parts (f n) (every_below f n) t).0
    go below false e = below (let ne = eqb-false k n e in omega arith)

-- ---- even integers
abbrev pub even : ℤ → Bool
even z = unsigned_abs z % 2 == 0

pub even_half : (z : ℤ) → even z ≡ true → (k : ℤ) × (z ≡ k +ℤ k)
even_half (pos n) t = (pos (n / 2), let e = eqb-true (n % 2) 0 t in ap pos (omega arith))
even_half (negsuc n) t = (neg_ℤ (pos (suc n / 2)), let e = eqb-true (suc n % 2) 0 t in omega (arith, ints))
