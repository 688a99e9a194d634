-- Bytes put in the place of others, one part after another.
use Rattle.std.proofs.Common.{◌≡◌, ℕ, ◌+◌, ◌-◌, ◌≤◌, List, [], ◌∷◌, ◌++◌, length, take, drop, sym, ap, ◌∙◌, subst, ap₂, append_assoc, add-zero, arith, length-append, length-drop, take-append-drop, length-take, drop-drop}
use lib.Seq.{take-append_seam, drop-append-add}
use borrow.Rule.Slice.PartMut.{put_mid}
use Rattle.std.proofs.lemmas.List.{append-nil, drop_all, take_all}
use Rattle.views.specs.Windows.{placed, written_over}

-- two parts, the second right after the first, are one
pub placed-then : (xs us vs : List ℕ) (a n : ℕ) → n ≡ a + length us → a + length us ≤ length xs → placed (placed xs a us) n vs ≡ placed xs a (us ++ vs)
placed-then xs us vs a n e h =
    let front : List ℕ = take a xs ++ us in
    let rest : List ℕ = drop (a + length us) xs in
    let p : placed xs a us ≡ front ++ rest = sym (append_assoc (take a xs) us rest) in
    let l : length front ≡ n = length-append (take a xs) us ∙ omega (arith, length-take a xs) in
    let t : take n (front ++ rest) ≡ front = subst (λ k. take k (front ++ rest) ≡ front) l (take-append_seam front rest) in
    let d : drop (n + length vs) (front ++ rest) ≡ drop (length vs) rest = subst (λ k. drop (k + length vs) (front ++ rest) ≡ drop (length vs) rest) l (drop-append-add front rest (length vs)) in
    let m : a + length us + length vs ≡ a + length (us ++ vs) = omega (arith, length-append us vs) in
    let last : drop (length vs) rest ≡ drop (a + length (us ++ vs)) xs = drop-drop (length vs) (a + length us) xs ∙ ap (λ k. drop k xs) m in
    ap (λ ys. take n ys ++ (vs ++ drop (n + length vs) ys)) p
    ∙ ap₂ (λ ys zs. ys ++ (vs ++ zs)) t (d ∙ last)
    ∙ append_assoc (take a xs) us (vs ++ drop (a + length (us ++ vs)) xs)
    ∙ ap (λ ys. take a xs ++ ys) (sym (append_assoc us vs (drop (a + length (us ++ vs)) xs)))

-- from the start on
pub placed_first : (xs us : List ℕ) → placed xs 0 us ≡ written_over us xs
placed_first xs us = ap (λ k. us ++ drop k xs) (let e : 0 + length us ≡ length us = omega arith in e)

-- nothing, anywhere
pub placed_none : (xs : List ℕ) (a : ℕ) → placed xs a [] ≡ xs
placed_none xs a = ap (λ k. take a xs ++ drop k xs) (add-zero a) ∙ take-append-drop a xs

-- what a write to a part of a slice leaves
pub mid_placed : (xs ys bytes : List ℕ) (a k : ℕ) → ys ≡ bytes → k ≡ length bytes → put_mid a k xs ys ≡ placed xs a bytes
mid_placed xs ys bytes a k e f =
    ap₂ (λ zs n. take a xs ++ (zs ++ drop n (drop a xs))) e f ∙ ap (λ zs. take a xs ++ (bytes ++ zs)) (drop-drop (length bytes) a xs)

-- ---- a picture that is written from the start on
pub record Written (xs us out : List ℕ) (n : ℕ) : Type 0 where
  pub output : out ≡ written_over us xs
  pub next : n ≡ length us

pub written_more : (xs us vs out more : List ℕ) (n k : ℕ) → Written xs us out n → more ≡ placed out n vs → k ≡ n + length vs → Written xs (us ++ vs) more k
written_more xs us vs out more n k w e f =
    let t : take n out ≡ us = ap₂ take w.next w.output ∙ take-append_seam us (drop (length us) xs) in
    let d : drop (n + length vs) out ≡ drop (length us + length vs) xs = ap₂ (λ i ys. drop (i + length vs) ys) w.next w.output ∙ drop-append-add us (drop (length us) xs) (length vs) ∙ drop-drop (length vs) (length us) xs in
    let m : length us + length vs ≡ length (us ++ vs) = sym (length-append us vs) in
    record {
      output = e ∙ ap₂ (λ ys zs. ys ++ (vs ++ zs)) t (d ∙ ap (λ i. drop i xs) m) ∙ sym (append_assoc us vs (drop (length (us ++ vs)) xs));
      next = f ∙ ap (λ i. i + length vs) w.next ∙ m;
    }

-- what a write over the rest of a slice leaves
rest_placed : (xs us ys : List ℕ) (a : ℕ) → a ≤ length xs → ys ≡ written_over us (take (length xs - a) (drop a xs)) → put_mid a (length xs - a) xs ys ≡ placed xs a us
rest_placed xs us ys a h e =
    let k : ℕ = length xs - a in
    let all : take k (drop a xs) ≡ drop a xs = take_all k (drop a xs) (omega (arith, length-drop a xs)) in
    let none : drop k (drop a xs) ≡ [] = drop_all k (drop a xs) (omega (arith, length-drop a xs)) in
    ap₂ (λ zs ws. take a xs ++ (zs ++ ws)) (e ∙ ap (written_over us) all) none
    ∙ ap (λ zs. take a xs ++ zs) (append-nil (us ++ drop (length us) (drop a xs)) ∙ ap (λ zs. us ++ zs) (drop-drop (length us) a xs))

-- the next part, written over the rest
pub written_on : (xs us vs out ys : List ℕ) (n k : ℕ) → Written xs us out n → ys ≡ written_over vs (take (length out - n) (drop n out)) → k ≡ length vs → Written xs (us ++ vs) (put_mid n (length out - n) out ys) (n + k)
written_on xs us vs out ys n k w e f =
    let h : n ≤ length out = omega (arith, w.next, ap length w.output, length-append us (drop (length us) xs)) in
    written_more xs us vs out (put_mid n (length out - n) out ys) n (n + k) w (rest_placed out vs ys n h e) (ap (λ i. n + i) f)

-- the parts of a header, joined
pub joined : (d e t : List ℕ) (gap : ℕ) → ((d ++ (gap ∷ [])) ++ e) ++ t ≡ d ++ (gap ∷ (e ++ t))
joined d e t gap = append_assoc (d ++ (gap ∷ [])) e t ∙ append_assoc d (gap ∷ []) (e ++ t)
