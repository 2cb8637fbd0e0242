use Rattle.std.proofs.Common.{◌≡◌, ◌++◌, length, take, drop, ap, subst, sym, IsPermutation, arith}
use Rattle.std.specs.List.{enumerate_from}
use Rattle.atlas_sheet.proofs.TurnedSprites.{written}
use Rattle.atlas_sheet.proofs.changes.change_of.Goals as goal

pub returns-clause-permuted : goal.returns-clause-permuted
returns-clause-permuted g c =
    let a : c.in_ok-lying.lying.len ≡ length c.change.new.lying =
    omega (arith, c.change.auto.lying, ap length c.deref_mut-2.ensures.value, c.in_ok-lying.lying.ok.0) in
    let b : c.in_ok-order.order.len ≡ length c.change.new.order =
    omega (arith, c.change.auto.order, ap length c.deref_mut.ensures.value, c.in_ok-order.order.ok.0) in
    let lying = take c.in_ok-lying.lying.len (c.change.new.lying ++ drop (length c.change.new.lying) c.in_ok-lying.lying.items) in
    subst (λ xs. IsPermutation (enumerate_from 0 lying) xs) (sym (written c.in_ok-order.order.len c.change.new.order
    c.in_ok-order.order.items b))
    (subst (λ ys. IsPermutation (enumerate_from 0 ys) c.change.new.order)
    (sym (written c.in_ok-lying.lying.len c.change.new.lying c.in_ok-lying.lying.items a))
    c.change.ensures.permuted)
