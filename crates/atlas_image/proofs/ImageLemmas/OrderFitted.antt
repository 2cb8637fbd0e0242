-- What is found of the nodes of a tree fits it: first members, and ranks that rise.
use Rattle.std.proofs.Common.{ℕ, ◌<◌, ◌≡◌, ◌≢◌, ◌⊎◌, List, refl, sym, ap, ◌∙◌, inl, inr, arith, zero, suc, subst, length, get_or}
use Rattle.std.proofs.lemmas.Bool.{cases_eq}
use Rattle.atlas_image.specs.declared.order.Order.{Order}
use Rattle.atlas_image.specs.Members.{IsFirstOf, IsUsed, first_in, rank_in}
use Rattle.atlas_image.specs.Ranks.{HasRank, IsOrderOfNodes, LeadsToSlot, firsts_of}
use Rattle.atlas_image.proofs.ImageLemmas.Accepted.{OrderFits}
use Rattle.atlas_image.proofs.ImageLemmas.Covered.{covered}
use Rattle.atlas_image.proofs.ImageLemmas.GrownOnce.{RanksFall, before, before-after, before-first}
use Rattle.atlas_image.proofs.ImageLemmas.OneFirst.{first-once}
use Rattle.atlas_image.proofs.ImageLemmas.PlacedMembers.{IsPlaced}
use Rattle.atlas_image.proofs.ImageLemmas.Ranking.{led-ranked, rank-falls}
use Rattle.atlas_model.specs.declared.geometry.Size.{Size}
use Rattle.atlas_search.specs.Numbers.{no_slot}
use Rattle.atlas_store.specs.declared.slots.Node.{Node}
use Rattle.atlas_store.specs.declared.slots.NodeKind.TheVariants as kind
use Rattle.atlas_store.specs.Slots.{node_at, use_count}
use Rattle.atlas_store.specs.Slots.Numbered.{Numbered, first_slot, End, Free, Alloc, Seq}
use Rattle.atlas_store.specs.Slots.Standing.{Sequence, Standing, Stands, inside}
use Rattle.atlas_store.proofs.SlotLemmas.Frames.{used-inside}

first_in_standing : (ns : List Node) (t : Sequence) (i p e : ℕ) (inner : Numbered)
    → Standing ns (inside t i p e) no_slot t.start inner → first_slot inner ≢ no_slot
    → IsFirstOf (node_at ns (first_slot inner)) i
first_in_standing ns t i p e End h z = absurd (z refl)
first_in_standing ns t i p e (Free j d rest) h z =
    record { used = rw h.0.kind (omega arith); parent = h.0.parent; previous = h.0.previous }
first_in_standing ns t i p e (Alloc j g d rest) h z =
    record { used = rw h.0.kind (omega arith); parent = h.0.parent; previous = h.0.previous }
first_in_standing ns t i p e (Seq j d inner rest) h z =
    record { used = rw h.0.kind (omega arith); parent = h.0.parent; previous = h.0.previous }

-- What a used slot of a tree leads to, and what leads to it.
pub record IsLedOn (ns : List Node) (i : ℕ) : Type 0 where
  pub after : (node_at ns i).previous.number ≢ no_slot → (node_at ns (node_at ns i).previous.number).next.number ≡ i
  pub used : (node_at ns i).previous.number ≢ no_slot → IsUsed (node_at ns (node_at ns i).previous.number)
  pub holder : (node_at ns i).parent.number ≢ no_slot → (node_at ns (node_at ns i).parent.number).kind ≡ kind.Container
  pub next : (node_at ns i).next.number ≢ no_slot → IsUsed (node_at ns (node_at ns i).next.number)
  pub back : (node_at ns i).next.number ≢ no_slot → (node_at ns (node_at ns i).next.number).previous.number ≡ i
  pub first : (node_at ns i).kind ≡ kind.Container → (c : ℕ) × IsFirstOf (node_at ns c) i

pub led-on : (ns : List Node) (size : Size) (top i : ℕ) → IsPlaced ns size top i → IsLedOn ns i
led-on ns size top i p = record {
  after = λ z. (p.after z).next;
  used = λ z. (p.after z).used;
  holder = p.holder;
  next = λ z. (p.before z).used;
  back = λ z. (p.before z).previous;
  first = p.filled;
}

module _ {A : Type 0} (ns : List Node) (o : Order A) (s : Sequence) (n : Numbered) (stands : Stands ns s n)
    (whole : s.parent ≡ no_slot) (none : (node_at ns no_slot).kind ≡ kind.Unused) (order : IsOrderOfNodes ns o)
    (begins : IsFirstOf (node_at ns (first_slot n)) no_slot) (short : length ns < no_slot)
    (on : (i : ℕ) → IsUsed (node_at ns i) → IsLedOn ns i) where
  abbrev d : ℕ → ℕ
  d i = firsts_of o.top o.firsts.items i

  some : (k : ℕ) → IsUsed (node_at ns k) → k ≢ no_slot
  some k l e = absurd (omega (arith, l, ap (λ v. use_count (node_at ns v).kind) e, ap use_count none))

  held : (k : ℕ) → IsUsed (node_at ns k) → k < length ns
  held k u = used-inside ns k u

  container_used : (k : ℕ) → (node_at ns k).kind ≡ kind.Container → IsUsed (node_at ns k)
  container_used k e = rw e (omega arith)

  holds : (k : ℕ) → IsUsed (node_at ns k) → ((node_at ns k).parent.number ≡ no_slot)
      ⊎ ((node_at ns k).parent.number < length ns)
  holds k u = elim (cases_eq (node_at ns k).parent.number no_slot) [
    | inl e ↦ inl e
    | inr ne ↦ inr (held (node_at ns k).parent.number
        (container_used (node_at ns k).parent.number ((on k u).holder ne)))
  ]

  firsts : (k : ℕ) → IsUsed (node_at ns k) → (node_at ns k).previous.number ≡ no_slot
      → IsFirstOf (node_at ns (first_in o (node_at ns k).parent.number).number) (node_at ns k).parent.number
  firsts k u p = order.noted k (held k u) u p (holds k u)

  -- The first member of a container is noted.
  first_noted : (i c : ℕ) → IsFirstOf (node_at ns c) i → d i ≡ c
  first_noted i c f =
      first-once ns s n whole stands none i (d i) c
      (subst (λ v. IsFirstOf (node_at ns (first_in o v).number) v) f.parent (firsts c f.used f.previous)) f

  top_is : o.top.number ≡ first_slot n
  top_is = first_noted no_slot (first_slot n) begins

  top_used : IsUsed (node_at ns o.top.number)
  top_used = subst (λ v. IsUsed (node_at ns v)) (sym top_is) begins.used

  -- What a used slot leads to is used, and comes after it.
  leads_used : (a x : ℕ) → IsUsed (node_at ns a) → LeadsToSlot ns d a x → x ≢ no_slot → IsUsed (node_at ns x)
  leads_used a x u (inl e) ne =
      subst (λ v. IsUsed (node_at ns v)) e ((on a u).next (λ z. ne (sym e ∙ z)))
  leads_used a x u (inr h) ne =
      let f = (on a u).first h.0 in
      subst (λ v. IsUsed (node_at ns v)) (sym (first_noted a f.0 f.1) ∙ h.1) f.1.used

  leads_before : (a x : ℕ) → IsUsed (node_at ns a) → LeadsToSlot ns d a x → x ≢ no_slot → before (node_at ns x) ≡ a
  leads_before a x u (inl e) ne =
      let back : (node_at ns x).previous.number ≡ a =
      subst (λ v. (node_at ns v).previous.number ≡ a) e ((on a u).back (λ z. ne (sym e ∙ z))) in
      before-after (node_at ns x) (λ z. some a u (sym back ∙ z)) ∙ back
  leads_before a x u (inr h) ne =
      let f = (on a u).first h.0 in
      let g : IsFirstOf (node_at ns x) a = subst (λ v. IsFirstOf (node_at ns v) a) (sym (first_noted a f.0 f.1) ∙ h.1) f.1 in
      before-first (node_at ns x) g.previous ∙ g.parent

  -- Each slot with a rank is used.
  ranked_used : (f x : ℕ) → get_or o.ranks.items x 0 < f → HasRank o.ranks.items x → IsUsed (node_at ns x)
  ranked_used zero x l r = absurd (omega arith)
  ranked_used (suc f) x l r = elim (order.ranked.ranking.origin x r) [
    | inl e ↦ subst (λ v. IsUsed (node_at ns v)) (sym e) top_used
    | inr j ↦
        let a = get_or order.ranked.queue j.0 0 in
        let u : IsUsed (node_at ns a) = ranked_used f a (omega (arith, l, order.ranked.ranking.low j.0 j.2, j.4))
        (order.ranked.ranking.queued j.0 j.2) in
        leads_used a x u j.3 (λ z. absurd (omega (arith, r.inside, order.ranked.long, z, short)))
  ]

  -- Each member has a rank.
  all_ranked : (x : ℕ) → IsUsed (node_at ns x) → HasRank o.ranks.items x
  all_ranked x u =
      covered ns d (HasRank o.ranks.items) n
      (λ i p e t inner h l z. first_noted i (first_slot inner) (first_in_standing ns t i p e inner h z))
      (λ a y l r lead ne.
      let used : IsUsed (node_at ns a) = omega (arith, stands.numbered a, l) in
      led-ranked (LeadsToSlot ns d) o.top.number order.ranked.queue o.ranks.items order.ranked.seen order.ranked.seen
      order.ranked.ranking order.ranked.all a y r lead (omega (arith, order.ranked.long, held y (leads_used a y used lead ne))))
      s no_slot 0 n (λ y. omega arith) (stands.numbered no_slot ∙ ap use_count none) stands.standing
      (λ _. subst (HasRank o.ranks.items) top_is (order.ranked.begun (omega (arith, held o.top.number top_used, order.ranked.long)))) x
      (omega (arith, stands.numbered x, u))

  falls : RanksFall ns (rank_in o)
  falls k u nz =
      rank-falls (LeadsToSlot ns d) o.top.number order.ranked.queue o.ranks.items order.ranked.seen order.ranked.seen
      order.ranked.ranking order.ranked.all (before (node_at ns k)) k (all_ranked k u)
      (λ e. nz (first_before k (e ∙ top_is)))
      (λ a lead r. sym (leads_before a k (ranked_used (suc (get_or o.ranks.items a 0)) a (omega arith) r) lead (some k u)))
    where
      first_before : (k : ℕ) → k ≡ first_slot n → before (node_at ns k) ≡ no_slot
      first_before k e = ap (λ v. before (node_at ns v)) e ∙ before-first (node_at ns (first_slot n)) begins.previous
          ∙ begins.parent

  pub order-fits : OrderFits ns o (first_slot n)
  order-fits = record { top = top_is; firsts = firsts; ranks = falls }
