-- The walk that gives ranks: its steps by what the calls leave.
use Rattle.std.proofs.Common.{ℕ, ◌+◌, ◌<◌, ◌≤◌, ◌≡◌, ◌≢◌, List, [], ◌∷◌, ◌++◌, refl, sym, ap, ◌∙◌, inl, inr, arith, zero, suc, subst}
use Rattle.std.proofs.Common.{length, get_or, get_or-set_other, get_or-set_same, length-set, length-append}
use Rattle.std.proofs.lemmas.Bool.{cases_eq}
use Rattle.std.proofs.lemmas.List.{get_or_append_left, length-map}
use Rattle.std.proofs.lemmas.List.Sums.{sum_by-cons, sum_by-set}
use Rattle.atlas_image.specs.Ranks.{AreBlank, AreRanked, HasRank, IsAdded, IsEnqueued, IsRanking, IsWalkedTo}
use Rattle.atlas_image.specs.Ranks.{LeadsToSlot, blank_rank, firsts_of, lacks, numbers_in, unranked}
use Rattle.atlas_image.proofs.ImageLemmas.Ranking.{added-keeps, lacks_none, lacks_some, looked-at, looks-on}
use Rattle.atlas_search.specs.declared.link.Link.{Link}
use Rattle.atlas_store.specs.declared.slots.Node.{Node}
use Rattle.atlas_store.specs.declared.slots.NodeKind.TheVariants as kind
use Rattle.atlas_store.specs.Slots.{node_at}

-- What a slot that is put in the queue leaves as it was, and that it has a rank.
pub record IsLonger (q q' rs rs' : List ℕ) (x : ℕ) : Type 0 where
  pub still : (y : ℕ) → HasRank rs y → HasRank rs' y
  pub place : (j : ℕ) → j < length q → get_or q' j 0 ≡ get_or q j 0
  pub more : length q ≤ length q'
  pub long : length rs' ≡ length rs
  pub ranked : x < length rs' → HasRank rs' x

pub longer : (q q' rs rs' : List ℕ) (x r : ℕ) → r ≢ blank_rank → IsEnqueued q q' rs rs' x r → IsLonger q q' rs rs' x
longer q q' rs rs' x r some (inl add) =
    let long : length rs' ≡ length rs = ap (λ (v : List ℕ). length v) add.ranks ∙ length-set rs x r in
    let new : get_or rs' x 0 ≡ r = ap (λ v. get_or v x 0) add.ranks ∙ get_or-set_same rs x r 0 add.lacked.0 in
    let here : HasRank rs' x =
    record { inside = omega (arith, long, add.lacked.0); some = λ e. some (sym new ∙ e) } in
    record {
      still = λ y h. elim (cases_eq y x) [
        | inl e ↦ subst (HasRank rs') (sym e) here
        | inr ne ↦
            let old : get_or rs' y 0 ≡ get_or rs y 0 = ap (λ v. get_or v y 0) add.ranks ∙ get_or-set_other rs x y r 0 ne in
            record { inside = omega (arith, long, h.inside); some = λ e. h.some (sym old ∙ e) }
      ];
      place = λ j l. ap (λ v. get_or v j 0) add.queue ∙ get_or_append_left q (x ∷ []) 0 j l;
      more = omega (arith, ap (λ (v : List ℕ). length v) add.queue, length-append q (x ∷ []));
      long = long;
      ranked = λ _. here;
    }
longer q q' rs rs' x r some (inr pass) =
    let long : length rs' ≡ length rs = ap (λ (v : List ℕ). length v) pass.ranks in
    record {
      still = λ y h. subst (λ v. HasRank v y) (sym pass.ranks) h;
      place = λ j l. ap (λ v. get_or v j 0) pass.queue;
      more = omega (arith, ap (λ (v : List ℕ). length v) pass.queue);
      long = long;
      ranked = λ l. subst (λ v. HasRank v x) (sym pass.ranks)
          (record { inside = omega (arith, long, l); some = λ e. pass.had (omega (arith, long, l), e) });
    }

module _ (leads : ℕ → ℕ → Type 0) (top : ℕ) where
  pub enqueued-keeps : (q q' rs rs' : List ℕ) (led seen x a : ℕ) → IsRanking leads top q rs led seen
      → IsEnqueued q q' rs rs' x (a + 1) → a < seen → a < length q → leads (get_or q a 0) x → a + 1 < blank_rank → led ≤ a
      → IsRanking leads top q' rs' led seen
  enqueued-keeps q q' rs rs' led seen x a h (inl add) early inside lead small first =
      added-keeps leads top q q' rs rs' led seen x a h add early inside lead small first
  enqueued-keeps q q' rs rs' led seen x a h (inr pass) early inside lead small first =
      subst (λ v. IsRanking leads top v rs' led seen) (sym pass.queue)
      (subst (λ v. IsRanking leads top q v led seen) (sym pass.ranks) h)

module _ (ns : List Node) (d : ℕ → ℕ) (top : ℕ) (q rs : List ℕ) (i : ℕ) (h : IsRanking (LeadsToSlot ns d) top q rs i i)
    (inside : i < length q) (small : length rs < blank_rank) (a : ℕ) (is_at : a ≡ get_or q i 0) (n : Node)
    (is_node : n ≡ node_at ns a) where
  early : i + 1 < blank_rank
  early = omega (arith, h.few, inside, small)

  not_none : i + 1 ≢ blank_rank
  not_none e = absurd (omega (arith, e, early))

  on : IsRanking (LeadsToSlot ns d) top q rs i (i + 1)
  on = looks-on (LeadsToSlot ns d) top q rs i h

  here : n ≡ node_at ns (get_or q i 0)
  here = is_node ∙ ap (node_at ns) is_at

  module _ (q' rs' : List ℕ) (one : IsEnqueued q q' rs rs' n.next.number (i + 1)) where
    grows : IsLonger q q' rs rs' n.next.number
    grows = longer q q' rs rs' n.next.number (i + 1) not_none one

    after : IsRanking (LeadsToSlot ns d) top q' rs' i (i + 1)
    after = enqueued-keeps (LeadsToSlot ns d) top q q' rs rs' i (i + 1) n.next.number i on one (omega arith) inside
        (inl (ap (λ (v : Node). v.next.number) (sym here))) early (omega arith)

    there : n ≡ node_at ns (get_or q' i 0)
    there = here ∙ ap (node_at ns) (sym (grows.place i inside))

    pub leaf-walked : (n.kind ≡ kind.Container → ⊥) → IsRanking (LeadsToSlot ns d) top q' rs' (i + 1) (i + 1)
    leaf-walked never = looked-at (LeadsToSlot ns d) top q' rs' i after (λ y lead l. elim lead [
      | inl e ↦
          let f : n.next.number ≡ y = ap (λ (v : Node). v.next.number) there ∙ e in
          subst (HasRank rs') f (grows.ranked (subst (λ v. v < length rs') (sym f) l))
      | inr k ↦ absurd (never (ap (λ (v : Node). v.kind) there ∙ k.0))
    ])

    module _ (q2 rs2 : List ℕ) (is : n.kind ≡ kind.Container) (two : IsEnqueued q' q2 rs' rs2 (d a) (i + 1)) where
      grows_again : IsLonger q' q2 rs' rs2 (d a)
      grows_again = longer q' q2 rs' rs2 (d a) (i + 1) not_none two

      place_still : get_or q2 i 0 ≡ get_or q' i 0
      place_still = grows_again.place i (omega (arith, inside, grows.more))

      at_still : a ≡ get_or q2 i 0
      at_still = is_at ∙ sym (grows.place i inside) ∙ sym place_still

      both : IsRanking (LeadsToSlot ns d) top q2 rs2 i (i + 1)
      both = enqueued-keeps (LeadsToSlot ns d) top q' q2 rs' rs2 i (i + 1) (d a) i after two (omega arith)
          (omega (arith, inside, grows.more))
          (inr (ap (λ (v : Node). v.kind) (sym there) ∙ is, ap d (grows.place i inside ∙ sym is_at))) early (omega arith)

      pub container-walked : IsRanking (LeadsToSlot ns d) top q2 rs2 (i + 1) (i + 1)
      container-walked = looked-at (LeadsToSlot ns d) top q2 rs2 i both (λ y lead l. elim lead [
        | inl e ↦
            let f : n.next.number ≡ y = ap (λ (v : Node). v.next.number) (is_node ∙ ap (node_at ns) at_still) ∙ e in
            grows_again.still y (subst (HasRank rs') f
            (grows.ranked (omega (arith, grows_again.long, subst (λ v. v < length rs2) (sym f) l))))
        | inr k ↦
            let f : d a ≡ y = ap d at_still ∙ k.1 in
            subst (HasRank rs2) f (grows_again.ranked (subst (λ v. v < length rs2) (sym f) l))
      ])

-- A place of the queue, by its number.
pub numbers-at : (q : List Link) (i : ℕ) (d : Link) → i < length q → get_or (numbers_in q) i 0 ≡ (get_or q i d).number
numbers-at [] i d l = absurd (omega arith)
numbers-at (x ∷ q) zero d l = refl
numbers-at (x ∷ q) (suc i) d l = numbers-at q i d (omega arith)

pub numbers-push : (q : List Link) (x : Link) → numbers_in (q ++ x ∷ []) ≡ numbers_in q ++ x.number ∷ []
numbers-push [] x = refl
numbers-push (y ∷ q) x = ap (λ v. y.number ∷ v) (numbers-push q x)

numbers_long : (q : List Link) → length (numbers_in q) ≡ length q
numbers_long q = length-map q (λ l. l.number)

unranked_blank : (rs : List ℕ) → AreBlank rs → unranked rs ≡ length rs
unranked_blank [] b = refl
unranked_blank (r ∷ rs) b =
    omega (arith, sum_by-cons lacks r rs, lacks_none r (b 0 (omega arith)), unranked_blank rs (λ x l. b (suc x) (omega arith)))

-- The walk begins with the first member, if there is one.
begin_added : (leads : ℕ → ℕ → Type 0) (top : ℕ) (q rs rs' : List ℕ) → AreBlank rs → IsAdded [] q rs rs' top 0
    → IsRanking leads top q rs' 0 0
begin_added leads top q rs rs' blank add =
    let long : length rs' ≡ length rs = ap (λ (v : List ℕ). length v) add.ranks ∙ length-set rs top 0 in
    let one : length q ≡ 1 = ap (λ (v : List ℕ). length v) add.queue in
    let new : get_or rs' top 0 ≡ 0 = ap (λ v. get_or v top 0) add.ranks ∙ get_or-set_same rs top 0 0 add.lacked.0 in
    let first : get_or q 0 0 ≡ top = ap (λ v. get_or v 0 0) add.queue in
    let only : (x : ℕ) → HasRank rs' x → x ≡ top = λ x h. elim (cases_eq x top) [
      | inl e ↦ e
      | inr ne ↦ absurd (h.some (ap (λ v. get_or v x 0) add.ranks ∙ get_or-set_other rs top x 0 0 ne
          ∙ blank x (omega (arith, h.inside, long))))
    ] in
    let at : (j : ℕ) → j < length q → get_or q j 0 ≡ top = λ j l.
    let z : j ≡ 0 = omega (arith, l, one) in ap (λ v. get_or q v 0) z ∙ first in
    record {
      origin = λ x h. inl (only x h);
      queued = λ j l. subst (HasRank rs') (sym (at j l))
          (record { inside = omega (arith, long, add.lacked.0); some = λ e. absurd (omega (arith, new, e)) });
      low = λ j l. omega (arith, ap (λ v. get_or rs' v 0) (at j l), new);
      found = λ x h. (0, omega (arith, one), first ∙ sym (only x h));
      done = λ j x l m lead n. absurd (omega (arith, l));
      few = omega (
        arith,
        one,
        long,
        ap unranked add.ranks,
        sum_by-set lacks rs top 0 0 add.lacked.0,
        lacks_none (get_or rs top 0) add.lacked.1,
        lacks_some 0 (λ e. absurd (omega (arith, e))),
        unranked_blank rs blank,
      );
    }

begin_none : (leads : ℕ → ℕ → Type 0) (top : ℕ) (rs : List ℕ) → AreBlank rs → IsRanking leads top [] rs 0 0
begin_none leads top rs blank = record {
  origin = λ x h. absurd (h.some (blank x h.inside));
  queued = λ j l. absurd (omega (arith, l));
  low = λ j l. absurd (omega (arith, l));
  found = λ x h. absurd (h.some (blank x h.inside));
  done = λ j x l m lead n. absurd (omega (arith, l));
  few = omega (arith, unranked_blank rs blank);
}

begins : (leads : ℕ → ℕ → Type 0) (top : ℕ) (q rs rs' : List ℕ) → AreBlank rs → IsEnqueued [] q rs rs' top 0
    → IsRanking leads top q rs' 0 0
begins leads top q rs rs' blank (inl add) = begin_added leads top q rs rs' blank add
begins leads top q rs rs' blank (inr pass) =
    subst (λ v. IsRanking leads top v rs' 0 0) (sym pass.queue)
    (subst (λ v. IsRanking leads top [] v 0 0) (sym pass.ranks) (begin_none leads top rs blank))

module _ (ns : List Node) (top : Link) (firsts : List Link) where
  pub walk-begins : (q q' : List Link) (rs rs' : List ℕ) → q ≡ [] → AreBlank rs → length rs ≡ length ns
      → IsEnqueued (numbers_in q) (numbers_in q') rs rs' top.number 0 → IsWalkedTo ns top firsts q' rs' 0
  walk-begins q q' rs rs' none blank long e =
      let f : IsEnqueued [] (numbers_in q') rs rs' top.number 0 =
      subst (λ v. IsEnqueued (numbers_in v) (numbers_in q') rs rs' top.number 0) none e in
      let grows = longer [] (numbers_in q') rs rs' top.number 0 (λ z. absurd (omega (arith, z))) f in
      record {
        ranking = begins (LeadsToSlot ns (firsts_of top firsts)) top.number (numbers_in q') rs rs' blank f;
        begun = grows.ranked;
        long = grows.long ∙ long;
      }

  module _ (q : List Link) (rs : List ℕ) (i : ℕ) (h : IsWalkedTo ns top firsts q rs i) where
    pub walk-ends : length q ≤ i → AreRanked ns top firsts rs
    walk-ends l = record {
      queue = numbers_in q;
      seen = i;
      ranking = h.ranking;
      all = omega (arith, numbers_long q);
      begun = h.begun;
      long = h.long;
    }

    pub walk-full : length ns ≤ i → AreRanked ns top firsts rs
    walk-full l = walk-ends (omega (arith, h.ranking.few, h.long, numbers_long q))

    module _ (inside : i < length q) (short : length ns < blank_rank) (at : Link) (is_at : at ≡ get_or q i at) (n : Node)
        (is_node : n ≡ node_at ns at.number) (q' : List Link) (rs' : List ℕ)
        (one : IsEnqueued (numbers_in q) (numbers_in q') rs rs' n.next.number (i + 1)) where
      inside_numbers : i < length (numbers_in q)
      inside_numbers = omega (arith, numbers_long q)

      is_number : at.number ≡ get_or (numbers_in q) i 0
      is_number = ap (λ (l : Link). l.number) is_at ∙ sym (numbers-at q i at inside)

      few_ranks : length rs < blank_rank
      few_ranks = omega (arith, h.long)

      grown_once : IsLonger (numbers_in q) (numbers_in q') rs rs' n.next.number
      grown_once = longer (numbers_in q) (numbers_in q') rs rs' n.next.number (i + 1)
          (λ e. absurd (omega (arith, e, h.ranking.few, inside_numbers, few_ranks))) one

      pub walk-leaf : (n.kind ≡ kind.Container → ⊥) → IsWalkedTo ns top firsts q' rs' (i + 1)
      walk-leaf never = record {
        ranking = leaf-walked ns (firsts_of top firsts) top.number (numbers_in q) rs i h.ranking inside_numbers few_ranks
            at.number is_number n is_node (numbers_in q') rs' one never;
        begun = λ l. grown_once.still top.number (h.begun (omega (arith, l, grown_once.long)));
        long = grown_once.long ∙ h.long;
      }

      pub walk-container : (q2 : List Link) (rs2 : List ℕ) → n.kind ≡ kind.Container
          → IsEnqueued (numbers_in q') (numbers_in q2) rs' rs2 (firsts_of top firsts at.number) (i + 1)
          → IsWalkedTo ns top firsts q2 rs2 (i + 1)
      walk-container q2 rs2 is two =
          let twice = longer (numbers_in q') (numbers_in q2) rs' rs2 (firsts_of top firsts at.number) (i + 1)
          (λ e. absurd (omega (arith, e, h.ranking.few, inside_numbers, few_ranks))) two in
          record {
            ranking = container-walked ns (firsts_of top firsts) top.number (numbers_in q) rs i h.ranking inside_numbers
                few_ranks at.number is_number n is_node (numbers_in q') rs' one (numbers_in q2) rs2 is two;
            begun = λ l. twice.still top.number
                (grown_once.still top.number (h.begun (omega (arith, l, grown_once.long, twice.long))));
            long = twice.long ∙ grown_once.long ∙ h.long;
          }
