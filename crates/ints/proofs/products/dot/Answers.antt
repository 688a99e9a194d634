use Rattle.std.proofs.Common.{◌+ℤ◌, ◌*ℤ◌, ◌∙◌, ap₂, arith}
use Rattle.ints.proofs.Sizes.{through_64, sum_fits, sum_is}
use Rattle.ints.proofs.products.dot.Goals as goal

pub overflow_add-result : goal.overflow_add-result
overflow_add-result c = sum_fits c.product.result c.product-2.result c.product.ensures.bound c.product-2.ensures.bound

pub returns : goal.returns
returns c =
    let first = c.product.ensures.value ∙ ap₂ ◌*ℤ◌ (through_64 c.args.a (omega (arith, c.requires.0))) (through_64 c.args.x (omega (arith, c.requires.1))) in
    let second = c.product-2.ensures.value ∙ ap₂ ◌*ℤ◌ (through_64 c.args.b (omega (arith, c.requires.2))) (through_64 c.args.y (omega (arith, c.requires.3))) in
    sum_is c.product.result c.product-2.result c.product.ensures.bound c.product-2.ensures.bound ∙ ap₂ ◌+ℤ◌ first second
