-- What the calls keep of entries: the map answers with the number of the entry with a key.
use Rattle.std.proofs.Common.{ℕ, refl, ◌+◌, ◌<◌, ◌≤◌, ◌≡◌, inl, inr, Bool, true, false, cond, max, List, [], ◌∷◌, length, Option, None}
use Rattle.std.proofs.Common.{Some, IfSome, is_some, sym, ap, subst, ◌∙◌, arith, slice_get, length-set, set}
use Rattle.std.specs.Option.{option_map_or}
use Rattle.std.specs.Cmp.{IsEquivalence}
use Rattle.std.specs.HashMap.{HashMap, get}
use Rattle.std.specs.List.{AllByRecursion, IsDistinct}
use Rattle.std.proofs.lemmas.Bool.{cases_eq, cases_Bool, cond-true, cond-false, false≢true}
use Rattle.std.proofs.lemmas.Map.Keys.{IsDistinct-cons}
use Rattle.std.proofs.lemmas.Option.{same_Some, none-some, slice_get_within}
use Rattle.atlas_model.specs.declared.geometry.Rectangle.{Rectangle}
use Rattle.atlas_entries.specs.declared.entries.Entry.{Entry}
use Rattle.atlas_entries.specs.Entries.{AreNumbered, IsNumber, entry_at, keys, moved, number_of, numbers, touched, without_number}
use Rattle.atlas_entries.specs.Orders.{IsEntry, IsFreshNumber, Order, gone, with_newest, with_reserve, used}
use Rattle.atlas_search.specs.Numbers.{occurs, same, without}
use Rattle.atlas_entries.specs.Tables.{AreKept, numbered}
use Rattle.atlas_search.proofs.Occurrences.{occurs-without, same-self, same-ne}
use Rattle.atlas_entries.proofs.EntryLemmas.{entry_at-none, entry_at-numbered, first-stored, number-occurs, number_of-none, number_of-some}
use Rattle.atlas_entries.proofs.EntryLemmas.{numbered-cons, numbered-moved, numbered-same, numbered-without, numbers-numbered, option_is}
use Rattle.atlas_entries.proofs.EntryLemmas.{slice_get-set_other, slice_get-set_same}

module _ {K S : Type 0} (eq : K → K → Bool) (map : HashMap K ℕ S) (order : Order) (items : List (Entry K)) (h : AreKept eq map order items)
  where
    -- The map answers as the list of entries does.
    pub get-number_of : (k : K) → get eq map k ≡ number_of eq k (numbered items order.entries)
    get-number_of k =
        elim (option_is (number_of eq k (numbered items order.entries))) [
          | inl none ↦ elim (option_is (get eq map k)) [
            | inl z ↦ z ∙ sym none
            | inr w ↦ (let f = h.found k w.0 w.1 in
                absurd (number_of-none eq k items w.0 f.entry order.entries h.inside none f.listed f.stored f.same))
          ]
          | inr w ↦ (let s = number_of-some eq k items w.0 order.entries h.inside w.1 in
              h.known k w.0 (record { listed = s.0; entry = s.1; stored = s.2; same = s.3 }) ∙ sym w.1)
        ]

    -- A number of the order is that of an entry.
    pub number-is : (n : ℕ) → IsEntry n order → IsNumber n (numbered items order.entries)
    number-is n l =
        let w = first-stored items n [] (λ k m. elim (cases_eq k n) [
          | inl q ↦ h.inside k (omega (arith, l, ap (λ v. occurs v order.entries) q))
          | inr ne ↦ absurd (omega (arith, m, same-ne k n ne))
        ]) in
        ap is_some (entry_at-numbered items n order.entries h.inside l ∙ w.1)

    -- What the map gives is the number of an entry.
    pub found-number : (k : K) (n : ℕ) → get eq map k ≡ Some n → IsNumber n (numbered items order.entries)
    found-number k n e = number-is n (h.found k n e).listed

    pub found-numbers : (k : K) (o : Option ℕ) → o ≡ get eq map k
        → IfSome o (λ n. IsNumber n (numbered items order.entries))
    found-numbers k None e = tt
    found-numbers k (Some n) e = found-number k n (sym e)

    -- The numbers of the entries are the order.
    pub numbers-are : (es : List (ℕ × Entry K)) → numbered items order.entries ≡ es → numbers es ≡ order.entries
    numbers-are es v = ap numbers (sym v) ∙ numbers-numbered items order.entries h.inside

    -- Whatever is the number of an entry stands in the order.
    pub entry-is : (es : List (ℕ × Entry K)) → numbered items order.entries ≡ es → (n : ℕ) → IsNumber n es
        → IsEntry n order
    entry-is es v n i = number-occurs items n order.entries (subst (IsNumber n) (sym v) i)

    pub each-number : (es : List (ℕ × Entry K)) → numbered items order.entries ≡ es → (o : Option ℕ)
        → IfSome o (λ n. IsEntry n order) → IfSome o (λ n. IsNumber n es)
    each-number es v None i = tt
    each-number es v (Some n) i = subst (IsNumber n) v (number-is n i)

    -- Another map that answers alike.
    pub kept-alike : (new : HashMap K ℕ S) → ((k : K) → get eq new k ≡ get eq map k) → AreKept eq new order items
    kept-alike new same_get = record {
      made = h.made;
      inside = h.inside;
      once = h.once;
      found = λ k n e. h.found k n (sym (same_get k) ∙ e);
      known = λ k n w. same_get k ∙ h.known k n w;
      own = h.own;
    }

    -- What is in reserve doesn't matter.
    pub kept-reserved : (n : ℕ) → AreKept eq map (with_reserve n order) items
    kept-reserved n = record {
      made = h.made;
      inside = h.inside;
      once = h.once;
      found = λ k m e. let w = h.found k m e in record { listed = w.listed; entry = w.entry; stored = w.stored; same = w.same };
      known = λ k m w. h.known k m (record { listed = w.listed; entry = w.entry; stored = w.stored; same = w.same });
      own = h.own;
    }

    -- Nor if nothing is.
    pub kept-unreserved : AreKept eq map (record order { reserved = 0 }) items
    kept-unreserved = record {
      made = h.made;
      inside = h.inside;
      once = h.once;
      found = λ k m e. let w = h.found k m e in record { listed = w.listed; entry = w.entry; stored = w.stored; same = w.same };
      known = λ k m w. h.known k m (record { listed = w.listed; entry = w.entry; stored = w.stored; same = w.same });
      own = h.own;
    }

    -- What belongs to one number changes, but not its key.
    module _ (n : ℕ) (e e' : Entry K) (new : List (Entry K)) (l : IsEntry n order) (s : slice_get items n ≡ Some e)
        (t : slice_get new n ≡ Some e') (key : e'.key ≡ e.key) (label : e'.number ≡ e.number) (size : length new ≡ length items)
        (o : (k : ℕ) → (k ≡ n → ⊥) → slice_get new k ≡ slice_get items k) where
      back : (k : K) (m : ℕ) (x : Entry K) → slice_get new m ≡ Some x → eq k x.key ≡ true
          → (y : Entry K) × (slice_get items m ≡ Some y) × (eq k y.key ≡ true)
      back k m x p q =
          elim (cases_eq m n) [
            | inl is ↦ (let same_entry : e' ≡ x = same_Some e' x (sym t ∙ ap (slice_get new) (sym is) ∙ p) in
                (e, ap (slice_get items) is ∙ s, ap (eq k) (sym key ∙ ap (λ (v : Entry K). v.key) same_entry) ∙ q))
            | inr ne ↦ (x, sym (o m ne) ∙ p, q)
          ]

      forth : (k : K) (m : ℕ) (x : Entry K) → slice_get items m ≡ Some x → eq k x.key ≡ true
          → (y : Entry K) × (slice_get new m ≡ Some y) × (eq k y.key ≡ true)
      forth k m x p q =
          elim (cases_eq m n) [
            | inl is ↦ (let same_entry : e ≡ x = same_Some e x (sym s ∙ ap (slice_get items) (sym is) ∙ p) in
                (e', ap (slice_get new) is ∙ t, ap (eq k) (key ∙ ap (λ (v : Entry K). v.key) same_entry) ∙ q))
            | inr ne ↦ (x, o m ne ∙ p, q)
          ]

      pub kept-changed : AreKept eq map order new
      kept-changed = record {
        made = omega (arith, h.made, size);
        inside = λ m i. omega (arith, h.inside m i, size);
        once = h.once;
        found = λ k m g. let w = h.found k m g in let r = forth k m w.entry w.stored w.same in
            record { listed = w.listed; entry = r.0; stored = r.1; same = r.2 };
        known = λ k m w. let r = back k m w.entry w.stored w.same in h.known k m
            (record { listed = w.listed; entry = r.0; stored = r.1; same = r.2 });
        own = λ m x p. elim (cases_eq m n) [
          | inl is ↦ (let same_entry : e' ≡ x = same_Some e' x (sym t ∙ ap (slice_get new) (sym is) ∙ p) in
              ap (λ (v : Entry K). v.number) (sym same_entry) ∙ label ∙ h.own n e s ∙ sym is)
          | inr ne ↦ h.own m x (sym (o m ne) ∙ p)
        ];
      }

    -- An entry is used.
    pub kept-used : (n : ℕ) → IsEntry n order → AreKept eq map (used n order) items
    kept-used n l =
        let there : (m : ℕ) → IsEntry m (used n order) → IsEntry m order = (λ m i. omega (arith, i, occurs-without n order.entries l m)) in
        record {
          made = h.made;
          inside = λ m i. h.inside m (there m i);
          once = λ m. omega (arith, h.once m, occurs-without n order.entries l m);
          found = λ k m g. let w = h.found k m g in record {
            listed = omega (arith, w.listed, occurs-without n order.entries l m);
            entry =
                w.entry;
            stored = w.stored;
            same = w.same;
          };
          known = λ k m w. h.known k m (record { listed = there m w.listed; entry = w.entry; stored = w.stored; same = w.same });
          own = h.own;
        }

    -- An entry goes, from the map and from the order.
    pub kept-gone : IsEquivalence eq → (n : ℕ) (e : Entry K) (new : HashMap K ℕ S) → IsEntry n order
        → slice_get items n ≡ Some e → ((k : K) → get eq new k ≡ cond (eq e.key k) None (get eq map k))
        → AreKept eq new (gone n order) items
    kept-gone laws n e new l s u =
        let there : (m : ℕ) → IsEntry m (gone n order) → IsEntry m order = (λ m i. omega (arith, i, occurs-without n order.entries l m)) in
        let ended : occurs n (without n order.entries) ≡ 0 = omega (arith, h.once n, occurs-without n order.entries l n, same-self n) in
        let own : (k : K) → eq e.key k ≡ true → get eq map k ≡ Some n = (λ k q. h.known k n
        (record { listed = l; entry = e; stored = s; same = laws.symm k e.key ∙ q })) in
        record {
          made = h.made;
          inside = λ m i. h.inside m (there m i);
          once = λ m. omega (arith, h.once m, occurs-without n order.entries l m);
          found = λ k m g. elim (cases_Bool (eq e.key k)) [
            | inl q ↦ absurd (none-some m (sym (cond-true (eq e.key k) None (get eq map k) q) ∙ sym (u k) ∙ g))
            | inr f ↦ (let w = h.found k m (sym (cond-false (eq e.key k) None (get eq map k) f) ∙ sym (u k) ∙ g) in
                let ne : m ≡ n → ⊥ = (λ is. let same_entry : e ≡ w.entry = same_Some e w.entry
                (sym s ∙ ap (slice_get items) (sym is) ∙ w.stored) in
                false≢true (sym f ∙ laws.symm e.key k ∙ ap (λ (v : Entry K). eq k v.key) same_entry ∙ w.same)) in
                record {
                  listed = omega (arith, w.listed, occurs-without n order.entries l m, same-ne m n ne);
                  entry = w.entry;
                  stored =
                      w.stored;
                  same = w.same;
                })
          ];
          known = λ k m w. let g = h.known k m (record { listed = there m w.listed; entry = w.entry; stored = w.stored; same = w.same }) in
              elim (cases_Bool (eq e.key k)) [
                | inl q ↦ (let is : m ≡ n = same_Some m n (sym g ∙ own k q) in
                    absurd (omega (arith, w.listed, ended, ap (λ v. occurs v (without n order.entries)) is)))
                | inr f ↦ u k ∙ cond-false (eq e.key k) None (get eq map k) f ∙ g
              ];
          own = h.own;
        }

    -- An entry with a new key joins.
    module _ (laws : IsEquivalence eq) (n : ℕ) (e : Entry K) (new : HashMap K ℕ S) (stored : List (Entry K)) (fresh : IsFreshNumber n order)
        (absent : get eq map e.key ≡ None) (u : (k : K) → get eq new k ≡ cond (eq e.key k) (Some n) (get eq map k))
        (t : slice_get stored n ≡ Some e) (o : (k : ℕ) → (k ≡ n → ⊥) → k < length items → slice_get stored k ≡ slice_get items k)
        (size : length stored ≡ max (length items) (n + 1)) (label : e.number ≡ n) where
      apart : (m : ℕ) → IsEntry m order → m ≡ n → ⊥
      apart m i q = omega (arith, i, fresh.free, ap (λ v. occurs v order.entries) q)

      pub kept-joined : AreKept eq new (with_newest n order) stored
      kept-joined = record {
        made = omega (arith, h.made, size);
        inside = λ m i. elim (cases_eq m n) [
          | inl q ↦ omega (arith, q, size)
          | inr ne ↦ omega (arith, h.inside m (omega (arith, i, same-ne m n ne)), size)
        ];
        once = λ m. elim (cases_eq m n) [
          | inl q ↦ omega (arith, same-self n, ap (λ v. same v n) q, ap (λ v. occurs v order.entries) q, fresh.free)
          | inr ne ↦ omega (arith, same-ne m n ne, h.once m)
        ];
        found = λ k m g. elim (cases_Bool (eq e.key k)) [
          | inl q ↦ (let is : n ≡ m = same_Some n m (sym (cond-true (eq e.key k) (Some n) (get eq map k) q) ∙ sym (u k) ∙ g) in
              record {
                listed = omega (arith, same-self n, ap (λ v. same v n) is);
                entry = e;
                stored = ap (slice_get stored) (sym is) ∙ t;
                same = laws.symm k e.key ∙ q;
              })
          | inr f ↦ (let w = h.found k m (sym (cond-false (eq e.key k) (Some n) (get eq map k) f) ∙ sym (u k) ∙ g) in
              record {
                listed = omega (arith, w.listed);
                entry = w.entry;
                stored = o m (apart m w.listed) (h.inside m w.listed) ∙ w.stored;
                same = w.same;
              })
        ];
        known = λ k m w. elim (cases_eq m n) [
          | inl is ↦ (let same_entry : e ≡ w.entry = same_Some e w.entry (sym t ∙ ap (slice_get stored) (sym is) ∙ w.stored) in
              u k ∙ cond-true (eq e.key k) (Some n) (get eq map k) (laws.symm e.key k ∙ ap (λ (v : Entry K). eq k v.key) same_entry ∙
              w.same)
              ∙ ap Some (sym is))
          | inr ne ↦ (let listed : IsEntry m order = omega (arith, w.listed, same-ne m n ne) in
              let old : slice_get items m ≡ Some w.entry = sym (o m ne (h.inside m listed)) ∙ w.stored in
              elim (cases_Bool (eq e.key k)) [
                | inl q ↦ absurd (none-some m (sym absent ∙ h.known e.key m
                    (record { listed = listed; entry = w.entry; stored = old; same = laws.congr e.key k w.entry.key q ∙ w.same })))
                | inr f ↦ u k ∙ cond-false (eq e.key k) (Some n) (get eq map k) f ∙
                    h.known k m (record { listed = listed; entry = w.entry; stored = old; same = w.same })
              ])
        ];
        own = λ m x p. elim (cases_eq m n) [
          | inl is ↦ (let same_entry : e ≡ x = same_Some e x (sym t ∙ ap (slice_get stored) (sym is) ∙ p) in
              ap (λ (v : Entry K). v.number) (sym same_entry) ∙ label ∙ sym is)
          | inr ne ↦ (let inside : m < length stored = slice_get_within stored m x p in
              h.own m x (sym (o m ne (omega (arith, inside, size, ne, fresh.next, h.made))) ∙ p))
        ];
      }

    -- What a new entry makes of the list of entries.
    pub joined-is : (n : ℕ) (e : Entry K) (stored : List (Entry K)) → IsFreshNumber n order → slice_get stored n ≡ Some e
        → ((k : ℕ) → (k ≡ n → ⊥) → k < length items → slice_get stored k ≡ slice_get items k)
        → numbered stored (n ∷ order.entries) ≡ (n, e) ∷ numbered items order.entries
    joined-is n e stored fresh t o =
        numbered-cons stored n order.entries e t ∙
        ap (λ r. (n, e) ∷ r) (numbered-same items stored order.entries (λ k l. o k
        (λ q. omega (arith, l, fresh.free, ap (λ v. occurs v order.entries) q)) (h.inside k l)))

    -- Each entry has its number.
    pub labels : (ns : List ℕ) → AreNumbered (numbered items ns)
    labels [] = tt
    labels (n ∷ ns) = go (slice_get items n) refl (labels ns)
      where
        go : (o : Option (Entry K)) → slice_get items n ≡ o → AreNumbered (numbered items ns)
            → AreNumbered (numbered items (n ∷ ns))
        go None is rest = rw is rest
        go (Some e) is rest = rw is (h.own n e is, rest)

    -- And their numbers are below what those of the order are below.
    pub labels-below : (bound : ℕ) (ns : List ℕ) → ((m : ℕ) → 0 < occurs m ns → m < bound)
        → AllByRecursion (λ (e : ℕ × Entry K). e.0 < bound) (numbered items ns)
    labels-below bound [] inner = tt
    labels-below bound (n ∷ ns) inner =
        go (slice_get items n) refl (inner n (omega (arith, same-self n)))
        (labels-below bound ns (λ m i. inner m (omega (arith, i))))
      where
        go : (o : Option (Entry K)) → slice_get items n ≡ o → n < bound
            → AllByRecursion (λ (e : ℕ × Entry K). e.0 < bound) (numbered items ns)
            → AllByRecursion (λ (e : ℕ × Entry K). e.0 < bound) (numbered items (n ∷ ns))
        go None is first rest = rw is rest
        go (Some e) is first rest = rw is (first, rest)

    -- A number that is new is that of no entry.
    pub new-none : (es : List (ℕ × Entry K)) → numbered items order.entries ≡ es → (n : ℕ) → IsFreshNumber n order
        → is_some (entry_at n es) ≡ false
    new-none es v n fresh =
        ap (λ es. is_some (entry_at n es)) (sym v) ∙ ap is_some (entry_at-none items n order.entries fresh.free)

    -- A key without an entry isn't in the map.
    pub absent-is : (es : List (ℕ × Entry K)) → numbered items order.entries ≡ es → (k : K)
        → is_some (number_of eq k es) ≡ false → get eq map k ≡ None
    absent-is es v k z =
        elim (option_is (get eq map k)) [
          | inl none ↦ none
          | inr w ↦ absurd (false≢true (sym z ∙ ap (λ es. is_some (number_of eq k es)) (sym v) ∙ ap is_some (sym (get-number_of k) ∙ w.1)))
        ]

    -- What belongs to a number is written, with the key that it had.
    module _ (n : ℕ) (r e : Entry K) (l : IsEntry n order) (s : slice_get items n ≡ Some r) (key : e.key ≡ r.key)
        (label : e.number ≡ r.number) where
      pub kept-written : AreKept eq map order (set items n e)
      kept-written =
          kept-changed n r e (set items n e) l s (slice_get-set_same items n e (h.inside n l)) key label (length-set items n e)
          (λ k ne. slice_get-set_other items n k e ne)

    pub touched-is : (n frame : ℕ) (r : Entry K) → IsEntry n order → slice_get items n ≡ Some r
        → numbered (set items n (record r { frame = frame })) (n ∷ without n order.entries) ≡ touched n frame (numbered items order.entries)
    touched-is n frame r l s =
        let e : Entry K = record r { frame = frame } in
        let es = numbered items order.entries in
        let rest = without n order.entries in
        let ended : occurs n rest ≡ 0 = omega (arith, h.once n, occurs-without n order.entries l n, same-self n) in
        numbered-cons (set items n e) n rest e (slice_get-set_same items n e (h.inside n l)) ∙
        ap (λ r. (n, e) ∷ r) (numbered-same items (set items n e) rest (λ k m. slice_get-set_other items n k e
        (λ q. omega (arith, m, ended, ap (λ v. occurs v rest) q))) ∙ numbered-without items n order.entries h.inside) ∙
        sym (ap (λ o. option_map_or (λ (x : Entry K). (n, record x { frame = frame }) ∷ without_number n es) o es)
        (entry_at-numbered items n order.entries h.inside l ∙ s))

    pub moved-is : (n page id : ℕ) (rectangle : Rectangle) (r : Entry K) → IsEntry n order → slice_get items n ≡ Some r
        → numbered (set items n (record r { page = page; id = id; rectangle = rectangle })) order.entries ≡ moved n page id rectangle
        (numbered items order.entries)
    moved-is n page id rectangle r l s =
        let e : Entry K = record r { page = page; id = id; rectangle = rectangle } in
        numbered-moved items (set items n e) n page id rectangle r order.entries h.inside s (slice_get-set_same items n e (h.inside n l))
        (λ k ne. slice_get-set_other items n k e ne) (h.once n)

    -- No two entries of a part of the order have equal keys.
    keys-apart : IsEquivalence eq → (x : ℕ) (e : Entry K) (ns : List ℕ) → IsEntry x order → slice_get items x ≡ Some e
        → occurs x ns ≡ 0 → ((m : ℕ) → 0 < occurs m ns → IsEntry m order)
        → AllByRecursion (λ k. eq e.key k ≡ false) (keys (numbered items ns))
    keys-apart laws x e [] l s z inner = tt
    keys-apart laws x e (y ∷ ns) l s z inner =
        let w = first-stored items y ns (λ m i. h.inside m (inner m i)) in
        let apart : eq e.key w.0.key ≡ false = elim (cases_Bool (eq e.key w.0.key)) [
          | inl t ↦ (let one = h.known e.key x (record { listed = l; entry = e; stored = s; same = laws.refl e.key }) in
              let other = h.known e.key y (record { listed = inner y (omega (arith, same-self y)); entry = w.0; stored = w.1; same = t }) in
              let is : x ≡ y = same_Some x y (sym one ∙ other) in
              absurd (omega (arith, z, same-self x, ap (λ v. same x v) is)))
          | inr f ↦ f
        ] in
        subst (λ es. AllByRecursion (λ k. eq e.key k ≡ false) (keys es)) (sym (numbered-cons items y ns w.0 w.1))
        (apart, keys-apart laws x e ns l s (omega (arith, z)) (λ m i. inner m (omega (arith, i))))

    keys-distinct : IsEquivalence eq → (ns : List ℕ) → ((m : ℕ) → occurs m ns ≤ 1)
        → ((m : ℕ) → 0 < occurs m ns → IsEntry m order) → IsDistinct eq (keys (numbered items ns))
    unfolding IsDistinct
    keys-distinct laws [] once inner = tt
    keys-distinct laws (x ∷ ns) once inner =
        let w = first-stored items x ns (λ m i. h.inside m (inner m i)) in
        subst (λ es. IsDistinct eq (keys es)) (sym (numbered-cons items x ns w.0 w.1))
        (IsDistinct-cons eq w.0.key (keys (numbered items ns)) (keys-apart laws x w.0 ns (inner x (omega (arith, same-self x))) w.1
        (omega (arith, once x, same-self x)) (λ m i. inner m (omega (arith, i))))
        (keys-distinct laws ns (λ m. omega (arith, once m)) (λ m i. inner m (omega (arith, i)))))

    -- No two entries have equal keys.
    pub IsDistinct-keys : IsEquivalence eq → IsDistinct eq (keys (numbered items order.entries))
    IsDistinct-keys laws = keys-distinct laws order.entries h.once (λ m i. i)
