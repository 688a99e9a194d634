use Rattle.std.proofs.Common.{◌≡◌, ◌≤◌, ℤ, ◌*ℤ◌, neg_ℤ, nat_abs, ap, ◌∙◌, ap₂, arith, lit≤}
use Rattle.ints.proofs.Sizes.{z64, through_64}
use Rattle.layers.specs.declared.matrix.Matrix.{Matrix}
use Rattle.layers.specs.Recast.{volume}
use Rattle.layers.specs.Fairness.{fair_is, held, negated}
use Rattle.layers.proofs.matrix.Matrix.inverse.Goals as goal

-- the determinant is a factor, an entry a term
sizes : (w : Matrix) (v z : ℤ) → v ≡ volume w → nat_abs (volume w) ≡ 1 → nat_abs z ≤ 8 → (nat_abs (z64 v) ≤ 1_000_000) × (nat_abs (z64 z) ≤ 1_000_000_000_000)
sizes w v z e u h = (held v 1_000_000 (omega (arith, ap nat_abs e)) (lit≤ tt), held z 1_000_000_000_000 (omega arith) (lit≤ tt))

-- what a product of the two is
times : (w : Matrix) (v z r : ℤ) → v ≡ volume w → nat_abs (volume w) ≡ 1 → nat_abs z ≤ 8 → r ≡ z64 v *ℤ z64 z → r ≡ volume w *ℤ z
times w v z r e u h p = p ∙ ap₂ ◌*ℤ◌ (through_64 v (omega (arith, ap nat_abs e)) ∙ e) (through_64 z (omega arith))

same_matrix : {m n : Matrix} → m.a ≡ n.a → m.b ≡ n.b → m.c ≡ n.c → m.d ≡ n.d → m ≡ n
same_matrix ea eb ec ed = λ i. record { a = ea i; b = eb i; c = ec i; d = ed i }

pub product-requires : goal.product-requires
product-requires c = let w = c.args.self in let f = fair_is w c.requires in sizes w c.volume-volume.result w.d c.volume-volume.ensures f.unit f.small.d

pub product-requires-2 : goal.product-requires-2
product-requires-2 c = let w = c.args.self in let f = fair_is w c.requires in sizes w c.volume-volume.result w.b c.volume-volume.ensures f.unit f.small.b

pub product-requires-3 : goal.product-requires-3
product-requires-3 c = let w = c.args.self in let f = fair_is w c.requires in sizes w c.volume-volume.result w.c c.volume-volume.ensures f.unit f.small.c

pub product-requires-4 : goal.product-requires-4
product-requires-4 c = let w = c.args.self in let f = fair_is w c.requires in sizes w c.volume-volume.result w.a c.volume-volume.ensures f.unit f.small.a

pub returns : goal.returns
returns c =
    let w = c.args.self in
    let f = fair_is w c.requires in
    let v = c.volume-volume.result in
    let e = c.volume-volume.ensures in
    let u = f.unit in
    let one = times w v w.d c.product.result e u f.small.d c.product.ensures.value in
    let two = times w v w.b c.product-2.result e u f.small.b c.product-2.ensures.value in
    let three = times w v w.c c.product-3.result e u f.small.c c.product-3.ensures.value in
    let four = times w v w.a c.product-4.result e u f.small.a c.product-4.ensures.value in
    same_matrix
    (through_64 c.product.result (omega (arith, c.product.ensures.bound)) ∙ one)
    (negated c.product-2.result c.product-2.ensures.bound ∙ ap neg_ℤ two)
    (negated c.product-3.result c.product-3.ensures.bound ∙ ap neg_ℤ three)
    (through_64 c.product-4.result (omega (arith, c.product-4.ensures.bound)) ∙ four)
