use Rattle.std.proofs.Common.{sym, ◌∙◌, arith, rules}
use Rattle.atlas_search.proofs.SearchLemmas.HeapSearches.{entry-alike, entry-looked, entry-over, entry-then_over}
use Rattle.atlas_search.proofs.search.showing.show_entry.Goals as goal

pub returns-then-passes-clause-all : goal.returns-then-passes-clause-all
returns-then-passes-clause-all g c = λ _ es is up d l r heap routed.
    let passed = c.passes.ensures c.if-passes.true in
    entry-over es (g.E.Entry.item c.args.entry.now) c.args.at.number is c.rectangle-area.result c.rectangle-area.ensures up d l r heap
    routed
    (search rules) c.corner-corner.result c.corner-corner.ensures.corner c.args.best.now passed.0 passed.1

pub returns-then-look-clause-all : goal.returns-then-look-clause-all
returns-then-look-clause-all g c = λ _ es is up d l r heap routed.
    let passed = c.look.ensures.equal c.if-look.true in
    entry-then_over es (g.E.Entry.item c.args.entry.now) c.args.at.number is c.rectangle-area.result c.rectangle-area.ensures up d l r heap
    routed
    (search rules) c.corner-corner.result c.corner-corner.ensures.corner c.args.best.now c.look.new.self passed.0 (omega (arith, passed.1))
    (λ q. entry-looked es (g.E.Entry.item c.args.entry.now) c.args.at.number is c.rectangle-area.result c.rectangle-area.ensures q
    c.args.best.now c.look.new.self (λ is_large. c.look.ensures.seen is_large q))

pub returns-clause-fork : goal.returns-clause-fork
returns-clause-fork g c = λ isf. (
  sym c.is_fork.ensures ∙ isf,
  λ es is q.
      entry-looked es (g.E.Entry.item c.args.entry.now) c.args.at.number is c.rectangle-area.result c.rectangle-area.ensures q
      c.args.best.now c.look.new.self (λ is_large. c.look.ensures.seen is_large q),
)

pub returns-clause-all : goal.returns-clause-all
returns-clause-all g c = λ isn es is up d l r heap routed q.
    entry-alike es (g.E.Entry.item c.args.entry.now) c.args.at.number is c.rectangle-area.result c.rectangle-area.ensures up d l r heap
    routed q
    c.args.best.now c.look.new.self (sym c.is_fork.ensures ∙ isn)
    (entry-looked es (g.E.Entry.item c.args.entry.now) c.args.at.number is c.rectangle-area.result c.rectangle-area.ensures q
    c.args.best.now c.look.new.self (λ is_large. c.look.ensures.seen is_large q))
