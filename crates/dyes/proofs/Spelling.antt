-- A name is its text, filled up, and filling up keeps the order.
use Rattle.std.proofs.Common.{◌≡◌, ℕ, zero, suc, ◌-◌, ◌<◌, ◌≤◌, true, false, cond, ◌&&◌, ltb, leb, List, [], ◌∷◌, ◌++◌, length, replicate, ap, ◌∙◌, ap₂, arith}
use Rattle.std.specs.List.{list_all, AllByRecursion as All}
use Rattle.std.proofs.lemmas.Bool.{cond-true, cond-false, and_parts, le-leb, leb-true, lt-ltb, le-ltb}
use Rattle.dyes.specs.Names.{letter, well_formed, lexical, TextsOrdered}
use Rattle.dyes.specs.Lexical.{lexical_irreflexive}

-- a text of a name's length is well formed if all its bytes are letters
pub is_well_formed : (text : List ℕ) → 1 ≤ length text → length text ≤ 8 → well_formed text ≡ list_all letter text
is_well_formed text a b = ap (λ t. t && (leb (length text) 8 && list_all letter text)) (le-leb 1 (length text) a) ∙ ap (λ t. t && list_all letter text) (le-leb (length text) 8 b)

-- ---- filling up keeps the order: 0 is below every letter, and an end below every byte

zeros : (n : ℕ) → 0 < n → replicate {A = ℕ} n 0 ≡ 0 ∷ replicate {A = ℕ} (n - 1) 0
zeros zero l = absurd (omega arith)
zeros (suc n) l = let e : n ≡ suc n - 1 = omega arith in ap (λ (k : ℕ). 0 ∷ replicate {A = ℕ} k 0) e

pub filled_order : (n : ℕ) (t u : List ℕ) → All (λ b. 0 < b) t → All (λ b. 0 < b) u → length t ≤ n → length u ≤ n → lexical (t ++ replicate (n - length t) 0) (u ++ replicate (n - length u) 0) ≡ lexical t u
filled_order n [] [] a b l m = lexical_irreflexive (replicate (n - 0) 0)
filled_order n [] (y ∷ ys) a b l m =
    let some : 0 < n - 0 = omega arith in
    ap (λ zs. lexical zs ((y ∷ ys) ++ replicate (n - length (y ∷ ys)) 0)) (zeros (n - 0) some) ∙ cond-true (ltb 0 y) _ _ (lt-ltb 0 y b.0)
filled_order n (x ∷ xs) [] a b l m =
    let some : 0 < n - 0 = omega arith in
    ap (λ zs. lexical ((x ∷ xs) ++ replicate (n - length (x ∷ xs)) 0) zs) (zeros (n - 0) some) ∙ cond-false (ltb x 0) _ _ (le-ltb x 0 (omega arith)) ∙ cond-true (ltb 0 x) _ _ (lt-ltb 0 x a.0)
filled_order n (x ∷ xs) (y ∷ ys) a b l m =
    let e : n - suc (length xs) ≡ n - 1 - length xs = omega arith in
    let f : n - suc (length ys) ≡ n - 1 - length ys = omega arith in
    let more : lexical (xs ++ replicate (n - 1 - length xs) 0) (ys ++ replicate (n - 1 - length ys) 0) ≡ lexical xs ys = filled_order (n - 1) xs ys a.1 b.1 (omega arith) (omega arith) in
    ap (λ t. cond (ltb x y) true (cond (ltb y x) false t)) (ap₂ (λ i j. lexical (xs ++ replicate i 0) (ys ++ replicate j 0)) e f ∙ more)

letters_positive : (t : List ℕ) → list_all letter t ≡ true → All (λ b. 0 < b) t
letters_positive [] h = tt
letters_positive (b ∷ bs) h =
    let p = and_parts (letter b) (list_all letter bs) h in
    let low : 97 ≤ b = leb-true 97 b (and_parts (leb 97 b) (leb b 122) p.0).0 in
    (omega arith, letters_positive bs p.1)

pub texts_ordered : TextsOrdered
texts_ordered t u h k =
    let p = and_parts (leb 1 (length t)) (leb (length t) 8 && list_all letter t) h in
    let q = and_parts (leb 1 (length u)) (leb (length u) 8 && list_all letter u) k in
    let p' = and_parts (leb (length t) 8) (list_all letter t) p.1 in
    let q' = and_parts (leb (length u) 8) (list_all letter u) q.1 in
    filled_order 8 t u (letters_positive t p'.1) (letters_positive u q'.1) (leb-true (length t) 8 p'.0) (leb-true (length u) 8 q'.0)
