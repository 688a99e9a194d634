use Rattle.std.proofs.Common.{◌≡◌, [], Some, None, sym, ap, ◌∙◌, subst, rules}
use Rattle.plane.specs.Cells.{AllWithin}
use Rattle.plane.specs.Rectangles.{rectangle_refusal}
use Rattle.census.specs.Windows.{met}
use Rattle.census.proofs.Meeting.{all_met, cells_same, no_memory, refuses, spanned}
use Rattle.census.proofs.windows.classes.Goals as goal

pub returns-in_err-window : goal.returns-in_err-window
returns-in_err-window g c =
    let m = g.S.Symmetry.meaning c.args.symmetry.now in
    let r = c.args.rectangle in
    let e : rectangle_refusal m.span r ≡ Some c.in_err-window.field-0.0 = ap (λ n. rectangle_refusal n r) (sym c.span.ensures) ∙ c.in_err-window.ensures in
    let f = refuses m (g.met.S.Symmetry.lawful c.args.symmetry.now) r c.in_err-window.field-0.0 e in
    search (rules, f)

pub gather-requires : goal.gather-requires
gather-requires g c =
    let m = g.S.Symmetry.meaning c.args.symmetry.now in
    let r = c.args.rectangle in
    let w = c.in_ok-window.ensures in
    let e : rectangle_refusal m.span r ≡ None = ap (λ n. rectangle_refusal n r) (sym c.span.ensures) ∙ w.0 in
    subst (AllWithin m.span) (sym (cells_same r c.in_ok-window.window w.1 w.2 w.3)) (spanned m (g.met.S.Symmetry.lawful c.args.symmetry.now) r e)

pub returns-in_err-gather : goal.returns-in_err-gather
returns-in_err-gather g c =
    let m = g.S.Symmetry.meaning c.args.symmetry.now in
    let r = c.args.rectangle in
    let e : rectangle_refusal m.span r ≡ None = ap (λ n. rectangle_refusal n r) (sym c.span.ensures) ∙ c.in_ok-window.ensures.0 in
    let f = no_memory m (g.met.S.Symmetry.lawful c.args.symmetry.now) r e in
    search (rules, f)

pub returns : goal.returns
returns g c =
    let m = g.S.Symmetry.meaning c.args.symmetry.now in
    let r = c.args.rectangle in
    let w = c.in_ok-window.ensures in
    let e : rectangle_refusal m.span r ≡ None = ap (λ n. rectangle_refusal n r) (sym c.span.ensures) ∙ w.0 in
    all_met m (g.met.S.Symmetry.lawful c.args.symmetry.now) r e _ (c.in_ok-gather.ensures ∙ ap (met m.home []) (cells_same r c.in_ok-window.window w.1 w.2 w.3))
