use Rattle.std.proofs.Common.{◌≡◌, Some, sym, ap, ◌∙◌, rules}
use Rattle.plane.specs.Rectangles.{rectangle_refusal}
use Rattle.census.proofs.Meeting.{refuses}
use Rattle.cards.proofs.picture.Picture.of.Goals as goal

pub returns-in_err-window : goal.returns-in_err-window
returns-in_err-window g c =
    let m = g.S.Symmetry.meaning c.args.symmetry.now in
    let r = c.args.rectangle in
    let e : rectangle_refusal m.span r ≡ Some c.in_err-window.field-0.0 = ap (λ n. rectangle_refusal n r) (sym c.span.ensures) ∙ c.in_err-window.ensures in
    let f = refuses m (g.met.S.Symmetry.lawful c.args.symmetry.now) r c.in_err-window.field-0.0 e in
    search (rules, f)
