use Rattle.std.proofs.Common.{◌≡◌, ◌∙◌, true, false, ap, arith, length, rules, subst, sym}
use Rattle.std.proofs.lemmas.List.{length-map}
use Rattle.atlas_image.specs.Unused.{IsMarkedLine, IsTakenFrom, is_unused}
use Rattle.atlas_image.proofs.ImageLemmas.UnusedLines.{unused-line, unused-marked, unused-unmarked}
use Rattle.atlas_image.proofs.unused.take_all.Goals as goal

pub take_marks-requires : goal.take_marks-requires
take_marks-requires c = ap (λ ms. length ms) c.requires ∙ length-map c.args.nodes.now is_unused

pub returns-then-not-take_marks-clause-complete : goal.returns-then-not-take_marks-clause-complete
returns-then-not-take_marks-clause-complete c = λ short xs h.
    let marked = subst (λ m. IsMarkedLine c.args.nodes.now m c.args.first.number xs) (sym c.requires)
    (unused-marked c.args.nodes.now c.args.first.number xs h) in
    let yes = (c.take_marks.ensures.complete short xs marked).0 in
    let no : c.take_marks.result ≡ false = search rules in
    sym no ∙ yes

pub returns-clause-sound : goal.returns-clause-sound
returns-clause-sound c = λ t.
    let yes : c.take_marks.result ≡ true = search rules in
    let taken = c.take_marks.ensures.sound yes in
    let long : length c.take_marks.new.marks ≡ length c.args.nodes.now =
    omega (arith, ap (λ ms. length ms) c.requires, length-map c.args.nodes.now is_unused) in (
      taken.0,
      unused-line c.args.nodes.now c.take_marks.new.marks c.args.first.number taken.0 long
          (subst (λ m. IsTakenFrom c.args.nodes.now m c.take_marks.new.marks c.args.first.number taken.0) c.requires taken.1)
          (c.are_unmarked.ensures.0 t),
    )

pub returns-clause-complete : goal.returns-clause-complete
returns-clause-complete c = λ short xs h.
    let marked = subst (λ m. IsMarkedLine c.args.nodes.now m c.args.first.number xs) (sym c.requires)
    (unused-marked c.args.nodes.now c.args.first.number xs h) in
    let taken = (c.take_marks.ensures.complete short xs marked).1 in
    let long : length c.take_marks.new.marks ≡ length c.args.nodes.now =
    omega (arith, ap (λ ms. length ms) c.requires, length-map c.args.nodes.now is_unused) in
    c.are_unmarked.ensures.1 (unused-unmarked c.args.nodes.now c.take_marks.new.marks c.args.first.number xs long h
    (subst (λ m. IsTakenFrom c.args.nodes.now m c.take_marks.new.marks c.args.first.number xs) c.requires taken))
