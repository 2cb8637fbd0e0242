use Rattle.std.proofs.Common.{◌≡◌, true, false, arith, below_more, refl, subst, sym, rules}
use Rattle.std.proofs.lemmas.Bool.{false≢true, iff_false}
use Rattle.atlas_image.specs.Members.{IsMember, IsNormalAndAligned, IsUsed}
use Rattle.atlas_store.specs.Slots.{node_at}
use Rattle.atlas_image.proofs.ImageLemmas.Joints.{members-all}
use Rattle.atlas_image.proofs.image.are_members.Goals as goal
use Rattle.atlas_image.proofs.image.are_members.Goals.{then-is_used+else-not-is_member+else-not-is_settled, else-is_used}

pub returns : goal.returns
returns g c = (
  (λ _. members-all _ _ _ _ (λ i l u. c.loop-number.invariant.members i (omega arith) u)
      (λ i l u. c.loop-number.invariant.settled i (omega arith) u)),
  (λ _. refl),
)

pub returns-then-not-is_member : goal.returns-then-not-is_member
returns-then-not-is_member g c = (
  (λ t. absurd (false≢true t)),
  (λ all.
      let i = c.loop-number.number in
      let not_member : c.is_member.result ≡ false = search rules in
      let used = subst IsUsed c.node-member.ensures (c.is_used.ensures.0 c.if-is_used.true) in
      absurd (iff_false c.is_member.ensures not_member
      (subst (IsMember c.args.nodes.now c.args.order.now c.args.size i) (sym c.node-member.ensures) (all.members i used)))),
)

pub returns-then-not-is_settled : goal.returns-then-not-is_settled
returns-then-not-is_settled g c = (
  (λ t. absurd (false≢true t)),
  (λ all.
      let i = c.loop-number.number in
      let not_settled : c.is_settled.result ≡ false = search rules in
      let used = subst IsUsed c.node-member.ensures (c.is_used.ensures.0 c.if-is_used.true) in
      absurd (iff_false c.is_settled.ensures not_settled
      (subst (IsNormalAndAligned c.args.nodes.now c.args.options.now) (sym c.node-member.ensures) (all.settled i used)))),
)

pub loop-number-preserved : goal.loop-number-preserved
loop-number-preserved g c =
    let i = c.loop-number.number in
    elim c.if-is_used.branch [
      | then-is_used+else-not-is_member+else-not-is_settled w ↦
          let member : w.is_member.result ≡ true = search rules in
          let settled : w.is_settled.result ≡ true = search rules in
          record {
            members = below_more _ _ c.loop-number.invariant.members (λ _. subst
                (IsMember c.args.nodes.now c.args.order.now c.args.size i) c.node-member.ensures (w.is_member.ensures.0 member));
            settled = below_more _ _ c.loop-number.invariant.settled (λ _. subst
                (IsNormalAndAligned c.args.nodes.now c.args.options.now) c.node-member.ensures (w.is_settled.ensures.0 settled));
          }
      | else-is_used w ↦
          let none : IsUsed (node_at c.args.nodes.now i) → ⊥ = λ u. iff_false c.is_used.ensures w.if-is_used.false
          (subst IsUsed (sym c.node-member.ensures) u) in
          record {
            members = below_more _ _ c.loop-number.invariant.members (λ u. absurd (none u));
            settled = below_more _ _ c.loop-number.invariant.settled (λ u. absurd (none u));
          }
    ]
