use Rattle.std.proofs.Common.{◌+◌, ◌∙◌, sym, subst, arith}
use Rattle.std.proofs.lemmas.Bool.{true≢false}
use Rattle.atlas_store.proofs.StoreLemmas.RestoredStores.{IsListing, listing-all, listing-more, listing-over}
use Rattle.atlas_store.proofs.store.Store.list_all.Goals as goal
use Rattle.atlas_store.proofs.store.Store.list_all.Goals.{then-is_free, else-is_free}

pub loop-number-preserved : goal.loop-number-preserved
loop-number-preserved g c =
    let first = c.args.self.now in
    let old = c.loop-number.self in
    let i = c.loop-number.number in
    elim c.if-is_free.branch [
      | then-is_free w ↦ subst (λ s. IsListing first s (i + 1)) (sym w.self-is)
          (listing-more first old i c.loop-number.invariant w.list.new.self (c.is_free.ensures.0 w.if-is_free.true) w.list.ensures)
      | else-is_free w ↦ subst (λ s. IsListing first s (i + 1)) (sym w.self-is)
          (listing-over first old i c.loop-number.invariant (λ e. true≢false (sym (c.is_free.ensures.1 e) ∙ w.if-is_free.false)))
    ]

pub returns : goal.returns
returns g c =
    listing-all c.args.self.now c.loop-number.self c.loop-number.number c.loop-number.invariant
    (omega (
      arith,
      c.loop-number-test.false,
      c.len-number-end.ensures,
      c.loop-number.invariant.slots,
      c.args.self.now.slots.ok,
    ))
