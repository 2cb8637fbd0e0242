-- Numbers of entries are taken and given back.
use Rattle.std.proofs.Common.{ℕ, ◌+◌, ◌<◌, ◌≤◌, ◌≡◌, List, [], ◌∷◌, ◌++◌, refl, sym, ap, ◌∙◌, ◌⊎◌, inl, inr, arith, length, length-append}
use Rattle.std.proofs.Common.{eqb, if◌then◌else◌, Some, None, slice_index_or}
use Rattle.std.proofs.lemmas.Bool.{cases_eq, cond-false, ne_eqb}
use Rattle.std.proofs.lemmas.List.{get_or_append_left, get_or_read}
use Rattle.atlas_entries.specs.declared.recency.links.Link.{Link}
use Rattle.atlas_entries.specs.Orders.{Order, newest_of, oldest_of}
use Rattle.atlas_search.specs.Numbers.{same, occurs, without}
use Rattle.atlas_entries.specs.Rings.{RunsThrough, RunsForward, HasSpare, IsRecency, IsRing, blank, line, run, no_entry, link_at, next_at}
use Rattle.atlas_entries.specs.Rings.{previous_at}
use Rattle.atlas_entries.proofs.RingLemmas.{RunsThrough-same, RunsForward-same, line-RunsThrough, last-RunsThrough, next-in_chain}
use Rattle.atlas_entries.proofs.RingLemmas.{previous-in_chain}
use Rattle.atlas_search.proofs.Occurrences.{same-self, same-ne, ne-from_occurs, occurs-without, length-without}

-- A ring with as many entries as are counted is what the links run through.
pub run-IsRing : (links : List Link) (ends : Link) (n : ℕ) (xs : List ℕ) → IsRing links ends xs → length xs ≡ n
    → run links ends n ≡ xs
run-IsRing links ends n xs h e =
    ap (λ m. line m (next_at links ends) ends.next) (sym e) ∙ line-RunsThrough (next_at links ends) (previous_at links ends) no_entry
    ends.next xs h.chain refl

-- What isn't an entry's number may be taken.
pub HasSpare-reused : (links : List Link) (ends : Link) (u : ℕ) (xs : List ℕ) → (u ≡ no_entry → ⊥)
    → HasSpare links ends u xs → HasSpare links ends (next_at links ends u) (u ∷ xs)
HasSpare-reused links ends u xs nu h = go h.spare h.line h.each h.inside h.all
  where
    go : (spare : List ℕ) → RunsForward (next_at links ends) u spare
        → ((k : ℕ) → k < length links → occurs k xs + occurs k spare ≡ 1)
        → ((k : ℕ) → 0 < occurs k xs + occurs k spare → k < length links) → length xs + length spare ≡ length links
        → HasSpare links ends (next_at links ends u) (u ∷ xs)
    go [] l each inside all = absurd (nu l)
    go (x ∷ rest) l each inside all =
        let e : u ≡ x = l.0 in
        record {
          spare = rest;
          line = rw e l.1;
          each = λ k m. omega (arith, each k m, ap (same k) e);
          inside = λ k m. inside k (omega (arith, m, ap (same k) e));
          all = omega (arith, all);
        }

-- A link that is added changes no other.
pub link-appended : (links : List Link) (ends l : Link) (k : ℕ) → (k ≡ no_entry) ⊎ (k < length links)
    → link_at (links ++ l ∷ []) ends k ≡ link_at links ends k
link-appended links ends l k (inl e) = rw e refl
link-appended links ends l k (inr m) =
    ap (λ (v : Link). if eqb k 4294967295 then ends else v) (get_or_append_left links (l ∷ []) blank k m)

pub IsRing-appended : (links : List Link) (ends l : Link) (xs : List ℕ) → IsRing links ends xs
    → IsRing (links ++ l ∷ []) ends xs
IsRing-appended links ends l xs h =
    record {
      chain = RunsThrough-same (next_at links ends) (previous_at links ends) (next_at (links ++ l ∷ []) ends)
          (previous_at (links ++ l ∷ []) ends) no_entry xs refl (λ k m. ap (λ (v : Link). v.next)
          (link-appended links ends l k (inr (h.inside k m)))) (λ k m. ap (λ (v : Link). v.previous)
          (link-appended links ends l k (inr (h.inside k m)))) refl h.chain;
      once = h.once;
      inside = λ k m. omega (arith, h.inside k m, length-append links (l ∷ []));
    }

pub HasSpare-appended : (links : List Link) (ends l : Link) (xs : List ℕ) → length links ≤ 4294967295
    → HasSpare links ends no_entry xs → HasSpare (links ++ l ∷ []) ends no_entry (length links ∷ xs)
HasSpare-appended links ends l xs short h = go h.spare h.line h.each h.inside h.all
  where
    go : (spare : List ℕ) → RunsForward (next_at links ends) no_entry spare
        → ((k : ℕ) → k < length links → occurs k xs + occurs k spare ≡ 1)
        → ((k : ℕ) → 0 < occurs k xs + occurs k spare → k < length links) → length xs + length spare ≡ length links
        → HasSpare (links ++ l ∷ []) ends no_entry (length links ∷ xs)
    go (x ∷ rest) line each inside all =
        let m : x < length links = inside x (omega (arith, same-self x)) in
        absurd (omega (arith, m, short, line.0))
    go [] line each inside all =
        record {
          spare = [];
          line = refl;
          each = λ k m. elim (cases_eq k (length links)) [
            | inl e ↦ let z : occurs k xs ≡ 0 = elim (cases_eq (occurs k xs) 0)
                [ inl q ↦ q | inr ne ↦ let b = inside k (omega (arith, ne)) in absurd (omega (arith, b, e)) ] in
                omega (arith, z, same-self (length links), ap (λ v. same v (length links)) e)
            | inr ne ↦ omega (arith, same-ne k (length links) ne, each k (omega (arith, m, ne, length-append links (l ∷ []))))
          ];
          inside = λ k m. elim (cases_eq k (length links)) [
            | inl e ↦ omega (arith, e, length-append links (l ∷ []))
            | inr ne ↦ omega (arith, length-append links (l ∷ []), inside k (omega (arith, m, same-ne k (length links) ne)))
          ];
          all = omega (arith, all, length-append links (l ∷ []));
        }

-- The spare numbers stay where their links do.
pub HasSpare-same : (links new : List Link) (ends last : Link) (u : ℕ) (xs ys : List ℕ) → length new ≡ length links
    → ((k : ℕ) → occurs k ys ≡ occurs k xs) → length ys ≡ length xs
    → ((k : ℕ) → k < length links → occurs k xs ≡ 0 → next_at new last k ≡ next_at links ends k)
    → HasSpare links ends u xs → HasSpare new last u ys
HasSpare-same links new ends last u xs ys el eo en others h =
    record {
      spare = h.spare;
      line = RunsForward-same (next_at links ends) (next_at new last) u h.spare
          (λ k m. let b = h.inside k (omega (arith, m)) in others k b (omega (arith, h.each k b, m))) h.line;
      each = λ k m. omega (arith, eo k, h.each k (omega (arith, m, el)));
      inside = λ k m. omega (arith, el, h.inside k (omega (arith, m, eo k)));
      all = omega (arith, h.all, el, en);
    }

pub IsRecency-made : (links : List Link) (ends : Link) (u n : ℕ) (xs : List ℕ) → length links ≤ 4294967295
    → IsRing links ends xs → HasSpare links ends u xs → length xs ≡ n → IsRecency links ends u n
IsRecency-made links ends u n xs short ring rest e =
    let same_run = run-IsRing links ends n xs ring e in
    record { short = short; ring = rw same_run ring; rest = rw same_run rest }

-- What is stored of an order.
pub order-is : (links : List Link) (ends : Link) (n made reserved : ℕ) (xs : List ℕ) → IsRing links ends xs → length xs ≡ n →
    length links ≡ made → (let o : Order = record { entries = run links ends n; made = length links; reserved = reserved } in o) ≡ record
    { entries = xs; made = made; reserved = reserved }
order-is links ends n made reserved xs ring e m = rw (run-IsRing links ends n xs ring e, m) refl

pub unused-inside : (links : List Link) (ends : Link) (u : ℕ) (xs : List ℕ) → HasSpare links ends u xs
    → (u ≡ no_entry) ⊎ (u < length links)
unused-inside links ends u xs h = go h.spare h.line h.inside
  where
    go : (spare : List ℕ) → RunsForward (next_at links ends) u spare
        → ((k : ℕ) → 0 < occurs k xs + occurs k spare → k < length links) → (u ≡ no_entry) ⊎ (u < length links)
    go [] l inside = inl l
    go (x ∷ rest) l inside = inr (inside u (omega (arith, same-self x, ap (λ v. same v x) l.0)))

pub new-free : (links : List Link) (ends : Link) (u k : ℕ) (xs : List ℕ) → HasSpare links ends u (k ∷ xs)
    → occurs k xs ≡ 0
new-free links ends u k xs h =
    let m = h.inside k (omega (arith, same-self k)) in omega (arith, h.each k m, same-self k)

-- What isn't linked may be linked elsewhere.
pub IsRing-relinked : (links new : List Link) (ends last : Link) (i : ℕ) (xs : List ℕ) → length new ≡ length links
    → (i ≡ no_entry → ⊥) → occurs i xs ≡ 0 → ((k : ℕ) → (k ≡ i → ⊥) → next_at new last k ≡ next_at links ends k)
    → ((k : ℕ) → previous_at new last k ≡ previous_at links ends k) → IsRing links ends xs → IsRing new last xs
IsRing-relinked links new ends last i xs el ni z next previous h =
    record {
      chain = RunsThrough-same (next_at links ends) (previous_at links ends) (next_at new last) (previous_at new last) no_entry xs
          (next no_entry (λ q. ni (sym q))) (λ k m. next k (ne-from_occurs i k xs z m)) (λ k m. previous k) (previous no_entry) h.chain;
      once = h.once;
      inside = λ k m. omega (arith, el, h.inside k m);
    }

-- A number is given back.
pub HasSpare-given : (links new : List Link) (ends last : Link) (u i : ℕ) (xs : List ℕ) → length new ≡ length links
    → 0 < occurs i xs → occurs i xs ≤ 1 → next_at new last i ≡ u
    → ((k : ℕ) → k < length links → occurs k xs ≡ 0 → (k ≡ i → ⊥) → next_at new last k ≡ next_at links ends k)
    → HasSpare links ends u xs → HasSpare new last i (without i xs)
HasSpare-given links new ends last u i xs el l one own others h =
    record {
      spare = i ∷ h.spare;
      line = (
        refl,
        rw own (RunsForward-same (next_at links ends) (next_at new last) u h.spare
            (λ k m. let b = h.inside k (omega (arith, m)) in let z : occurs k xs ≡ 0 = omega (arith, h.each k b, m) in
            others k b z (λ q. ne-from_occurs k i xs z l (sym q))) h.line),
      );
      each = λ k m. omega (arith, occurs-without i xs l k, h.each k (omega (arith, m, el)));
      inside = λ k m. omega (arith, el, h.inside k (omega (arith, occurs-without i xs l k, m)));
      all = omega (arith, h.all, el, length-without i xs l);
    }

pub first-none : (links : List Link) (ends : Link) (xs : List ℕ) → length links ≤ 4294967295 → IsRing links ends xs
    → ends.next ≡ 4294967295 → None ≡ newest_of xs
first-none links ends [] short h e = refl
first-none links ends (x ∷ xs) short h e =
    let m = h.inside x (omega (arith, same-self x)) in absurd (omega (arith, m, short, e, h.chain.0))

pub first-some : (links : List Link) (ends : Link) (xs : List ℕ) → IsRing links ends xs → (ends.next ≡ 4294967295 → ⊥)
    → Some ends.next ≡ newest_of xs
first-some links ends [] h ne = absurd (ne h.chain.0)
first-some links ends (x ∷ xs) h ne = ap (λ (v : ℕ). Some v) h.chain.0

last-in : (nx pv : ℕ → ℕ) (b x : ℕ) (xs : List ℕ) → RunsThrough nx pv b (x ∷ xs) → 0 < occurs (pv no_entry) (x ∷ xs)
last-in nx pv b x [] h = omega (arith, same-self x, ap (λ v. same v x) h.2.1)
last-in nx pv b x (y ∷ ys) h = omega (arith, last-in nx pv x y ys h.2)

pub last-none : (links : List Link) (ends : Link) (xs : List ℕ) → length links ≤ 4294967295 → IsRing links ends xs
    → ends.previous ≡ 4294967295 → None ≡ oldest_of xs
last-none links ends [] short h e = refl
last-none links ends (x ∷ xs) short h e =
    let m = h.inside _ (last-in (next_at links ends) (previous_at links ends) no_entry x xs h.chain) in absurd (omega (arith, m, short, e))

pub last-some : (links : List Link) (ends : Link) (xs : List ℕ) → IsRing links ends xs
    → (ends.previous ≡ 4294967295 → ⊥) → Some ends.previous ≡ oldest_of xs
last-some links ends [] h ne = absurd (ne h.chain.1)
last-some links ends (x ∷ xs) h ne = sym (last-RunsThrough (next_at links ends) (previous_at links ends) no_entry x xs h.chain)

RunsThrough-older : (nx pv : ℕ → ℕ) (b i : ℕ) (newer older : List ℕ) → RunsThrough nx pv b (newer ++ i ∷ older)
    → RunsThrough nx pv i older
RunsThrough-older nx pv b i [] older h = h.2
RunsThrough-older nx pv b i (x ∷ newer) older h = RunsThrough-older nx pv x i newer older h.2

older-occurs : (x : ℕ) (newer older : List ℕ) (i : ℕ) → 0 < occurs x older → 0 < occurs x (newer ++ i ∷ older)
older-occurs x [] older i l = omega (arith, l)
older-occurs x (y ∷ newer) older i l = omega (arith, older-occurs x newer older i l)

pub older-none : (links : List Link) (ends : Link) (i : ℕ) (newer older : List ℕ) → length links ≤ 4294967295
    → IsRing links ends (newer ++ i ∷ older) → next_at links ends i ≡ 4294967295 → None ≡ newest_of older
older-none links ends i newer [] short h e = refl
older-none links ends i newer (x ∷ older) short h e =
    let m = h.inside x (older-occurs x newer (x ∷ older) i (omega (arith, same-self x))) in
    let c = RunsThrough-older (next_at links ends) (previous_at links ends) no_entry i newer (x ∷ older) h.chain in
    absurd (omega (arith, m, short, e, c.0))

pub older-some : (links : List Link) (ends : Link) (i : ℕ) (newer older : List ℕ)
    → IsRing links ends (newer ++ i ∷ older) → (next_at links ends i ≡ 4294967295 → ⊥)
    → Some (next_at links ends i) ≡ newest_of older
older-some links ends i newer [] h ne =
    absurd (ne (RunsThrough-older (next_at links ends) (previous_at links ends) no_entry i newer [] h.chain).0)
older-some links ends i newer (x ∷ older) h ne =
    ap (λ (v : ℕ). Some v) (RunsThrough-older (next_at links ends) (previous_at links ends) no_entry i newer (x ∷ older) h.chain).0

RunsThrough-newer : (nx pv : ℕ → ℕ) (b i x : ℕ) (newer older : List ℕ) → RunsThrough nx pv b (x ∷ (newer ++ i ∷ older))
    → oldest_of (x ∷ newer) ≡ Some (pv i)
RunsThrough-newer nx pv b i x [] older h = ap (λ (v : ℕ). Some v) (sym h.2.1)
RunsThrough-newer nx pv b i x (y ∷ newer) older h = RunsThrough-newer nx pv x i y newer older h.2

newer-in : (nx pv : ℕ → ℕ) (b i x : ℕ) (newer older : List ℕ) → RunsThrough nx pv b (x ∷ (newer ++ i ∷ older))
    → 0 < occurs (pv i) (x ∷ (newer ++ i ∷ older))
newer-in nx pv b i x [] older h = omega (arith, same-self x, ap (λ v. same v x) h.2.1)
newer-in nx pv b i x (y ∷ newer) older h = omega (arith, newer-in nx pv x i y newer older h.2)

pub newer-none : (links : List Link) (ends : Link) (i : ℕ) (newer older : List ℕ) → length links ≤ 4294967295
    → IsRing links ends (newer ++ i ∷ older) → previous_at links ends i ≡ 4294967295 → None ≡ oldest_of newer
newer-none links ends i [] older short h e = refl
newer-none links ends i (x ∷ newer) older short h e =
    let m = h.inside _ (newer-in (next_at links ends) (previous_at links ends) no_entry i x newer older h.chain) in
    absurd (omega (arith, m, short, e))

pub newer-some : (links : List Link) (ends : Link) (i : ℕ) (newer older : List ℕ)
    → IsRing links ends (newer ++ i ∷ older)
    → (previous_at links ends i ≡ 4294967295 → ⊥) → Some (previous_at links ends i) ≡ oldest_of newer
newer-some links ends i [] older h ne = absurd (ne h.chain.1)
newer-some links ends i (x ∷ newer) older h ne =
    sym (RunsThrough-newer (next_at links ends) (previous_at links ends) no_entry i x newer older h.chain)

pub next-read : (links : List Link) (ends l : Link) (u : ℕ) → (u ≡ 4294967295 → ⊥) → l ≡ slice_index_or links u l
    → u < length links → l.next ≡ next_at links ends u
next-read links ends l u nu e m =
    ap (λ (v : Link). v.next) (get_or_read links u l m e blank ∙ sym (cond-false (eqb u 4294967295) ends (slice_index_or links u blank)
    (ne_eqb u 4294967295 nu)))

pub first-entry : (links : List Link) (ends : Link) (xs : List ℕ) → IsRing links ends xs → (ends.next ≡ 4294967295 → ⊥)
    → 0 < occurs ends.next xs
first-entry links ends [] h ne = absurd (ne h.chain.0)
first-entry links ends (x ∷ xs) h ne = omega (arith, same-self x, ap (λ (v : ℕ). same v x) h.chain.0)

pub last-entry : (links : List Link) (ends : Link) (xs : List ℕ) → IsRing links ends xs
    → (ends.previous ≡ 4294967295 → ⊥) → 0 < occurs ends.previous xs
last-entry links ends [] h ne = absurd (ne h.chain.1)
last-entry links ends (x ∷ xs) h ne =
    last-in (next_at links ends) (previous_at links ends) no_entry x xs h.chain

pub next-entry : (links : List Link) (ends : Link) (i : ℕ) (xs : List ℕ) → IsRing links ends xs → 0 < occurs i xs
    → (next_at links ends i ≡ 4294967295 → ⊥) → 0 < occurs (next_at links ends i) xs
next-entry links ends i xs h l ne =
    elim (next-in_chain (next_at links ends) (previous_at links ends) no_entry i xs h.chain l) [ inl e ↦ absurd (ne e) | inr m ↦ m ]

pub previous-entry : (links : List Link) (ends : Link) (i : ℕ) (xs : List ℕ) → IsRing links ends xs → 0 < occurs i xs
    → (previous_at links ends i ≡ 4294967295 → ⊥) → 0 < occurs (previous_at links ends i) xs
previous-entry links ends i xs h l ne =
    elim (previous-in_chain (next_at links ends) (previous_at links ends) no_entry i xs h.chain l) [ inl e ↦ absurd (ne e) | inr m ↦ m ]

-- Where no number is spare and no more can be made, all are in use.
pub all-used : (links : List Link) (ends : Link) (u : ℕ) (xs : List ℕ) → HasSpare links ends u xs → u ≡ no_entry
    → length links ≡ no_entry → length xs ≡ no_entry
all-used links ends u xs h e m = go h.spare h.line h.inside h.all
  where
    go : (spare : List ℕ) → RunsForward (next_at links ends) u spare
        → ((k : ℕ) → 0 < occurs k xs + occurs k spare → k < length links) → length xs + length spare ≡ length links
        → length xs ≡ no_entry
    go [] l inside all = omega (arith, all, m)
    go (x ∷ rest) l inside all = let i = inside x (omega (arith, same-self x)) in absurd (omega (arith, i, l.0, e, m))

-- Where no number is spare, all that were made are in use.
pub none-spare : (links : List Link) (ends : Link) (u : ℕ) (xs : List ℕ) → HasSpare links ends u xs → u ≡ no_entry
    → length links ≤ no_entry → length xs ≡ length links
none-spare links ends u xs h e short = go h.spare h.line h.inside h.all
  where
    go : (spare : List ℕ) → RunsForward (next_at links ends) u spare
        → ((k : ℕ) → 0 < occurs k xs + occurs k spare → k < length links) → length xs + length spare ≡ length links
        → length xs ≡ length links
    go [] l inside all = omega (arith, all)
    go (x ∷ rest) l inside all = let i = inside x (omega (arith, same-self x)) in absurd (omega (arith, i, l.0, e, short))
