use Rattle.std.proofs.Common.{◌*ℤ◌, arith, w64, SFits}
use Rattle.std.proofs.lemmas.Int.{to_z-of_z}
use Rattle.ints.proofs.Sizes.{fits_64, product_bound}
use Rattle.ints.proofs.products.product.Goals as goal

pub overflow_mul-result : goal.overflow_mul-result
overflow_mul-result c =
    let a = c.args.a in
    let x = c.args.x in
    let fa : SFits w64 a = fits_64 a (omega (arith, c.requires.0)) in
    let fx : SFits w64 x = fits_64 x (omega (arith, c.requires.1)) in
    let b = product_bound a x c.requires.0 c.requires.1 in
    let fp : SFits w64 (a *ℤ x) = fits_64 (a *ℤ x) (omega (arith, b)) in
    simp to_z-of_z fp

pub returns : goal.returns
returns c =
    let a = c.args.a in
    let x = c.args.x in
    let fa : SFits w64 a = fits_64 a (omega (arith, c.requires.0)) in
    let fx : SFits w64 x = fits_64 x (omega (arith, c.requires.1)) in
    let b = product_bound a x c.requires.0 c.requires.1 in
    let fp : SFits w64 (a *ℤ x) = fits_64 (a *ℤ x) (omega (arith, b)) in
    record { value = simp to_z-of_z; bound = simp to_z-of_z b }
