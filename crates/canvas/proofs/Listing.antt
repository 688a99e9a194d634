-- Lists of distinct cells, with one cell taken out.
use Rattle.std.proofs.Common.{◌≡◌, suc, List, [], ◌∷◌, length, sym, refl, ap, ◌∙◌, subst, inl, inr}
use Rattle.plane.specs.declared.cell.Cell.{Cell}
use Rattle.canvas.specs.Distinct.{Member, Distinct}

-- the list without one occurrence
pub without : (t : Cell) (ts : List Cell) → Member t ts → List Cell
without t [] m = []
without t (u ∷ us) (inl e) = us
without t (u ∷ us) (inr m) = u ∷ without t us m

pub length_without : (t : Cell) (ts : List Cell) (m : Member t ts) → length ts ≡ suc (length (without t ts m))
unfolding without
length_without t [] m = absurd m
length_without t (u ∷ us) (inl e) = refl
length_without t (u ∷ us) (inr m) = ap suc (length_without t us m)

pub stays : (t : Cell) (ts : List Cell) (m : Member t ts) (s : Cell) → (s ≡ t → ⊥) → Member s ts → Member s (without t ts m)
unfolding without
stays t [] m s n h = absurd m
stays t (u ∷ us) (inl e) s n (inl f) = absurd (n (f ∙ sym e))
stays t (u ∷ us) (inl e) s n (inr h) = h
stays t (u ∷ us) (inr m) s n (inl f) = inl f
stays t (u ∷ us) (inr m) s n (inr h) = inr (stays t us m s n h)

member_rest : (t : Cell) (ts : List Cell) (m : Member t ts) (s : Cell) → Member s (without t ts m) → Member s ts
unfolding without
member_rest t [] m s h = h
member_rest t (u ∷ us) (inl e) s h = inr h
member_rest t (u ∷ us) (inr m) s (inl f) = inl f
member_rest t (u ∷ us) (inr m) s (inr h) = inr (member_rest t us m s h)

pub within_rest : (t : Cell) (ts : List Cell) (m : Member t ts) → Distinct ts → (s : Cell) → Member s (without t ts m) → Member s ts × (s ≡ t → ⊥)
unfolding without
within_rest t ts m d s h = (member_rest t ts m s h, λ e. gone t ts m d (subst (λ c. Member c (without t ts m)) e h))
  where
    gone : (t : Cell) (ts : List Cell) (m : Member t ts) → Distinct ts → Member t (without t ts m) → ⊥
    gone t [] m d h = m
    gone t (u ∷ us) (inl e) d h = d.0 (subst (λ c. Member c us) e h)
    gone t (u ∷ us) (inr m) d (inl f) = d.0 (subst (λ c. Member c us) f m)
    gone t (u ∷ us) (inr m) d (inr h) = gone t us m d.1 h

pub distinct_rest : (t : Cell) (ts : List Cell) (m : Member t ts) → Distinct ts → Distinct (without t ts m)
unfolding without
distinct_rest t [] m d = d
distinct_rest t (u ∷ us) (inl e) d = d.1
distinct_rest t (u ∷ us) (inr m) d = (λ h. d.0 (member_rest t us m u h), distinct_rest t us m d.1)
