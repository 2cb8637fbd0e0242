-- Lines gathered in a block, and blocks written one after another.
use Rattle.std.proofs.Common.{◌≡◌, ℕ, ◌+◌, ◌<◌, List, [], ◌∷◌, ◌++◌, length, take, drop, get_or, flat_map, Option, Some, None, refl, sym}
use Rattle.std.proofs.Common.{ap, ◌∙◌, subst, arith, append_assoc, append-nil}
use Rattle.std.proofs.lemmas.Grind.{flat_map-append}
use Rattle.std.proofs.lemmas.List.{take_more, take_all, take-append-drop}
use Rattle.std.specs.Io.KnownBytes.{Appends}
use Rattle.atlas_words.specs.Blocks.{IsGathered}
use Rattle.atlas_words.specs.Devices.{WritesBeginning}
use Rattle.atlas_words.proofs.Known.{Appends_none, Appends_twice, WritesBeginning_after}

-- A beginning of more.
pub begins_more : (old new : Option (List ℕ)) (text rest : List ℕ) → WritesBeginning old new text
    → WritesBeginning old new (text ++ rest)
begins_more old None text rest w = tt
begins_more old (Some ys) text rest w = (w.0, w.1 ++ rest, ap (λ t. t ++ rest) w.2 ∙ append_assoc w.0 w.1 rest, w.3)

-- What was gathered, and then a beginning of the rest.
pub gathered_begins : (old mid new : Option (List ℕ)) (block text line sent : List ℕ) → IsGathered old mid block text
    → sent ≡ block ++ line → WritesBeginning mid new sent
    → WritesBeginning old new (text ++ line)
gathered_begins old mid new block text line sent g e w =
    let P : List ℕ → Type 0 = λ t. WritesBeginning old new t in
    let whole : g.done ++ sent ≡ text ++ line = ap (λ t. g.done ++ t) e ∙ sym (append_assoc g.done block line) ∙
    ap (λ t. t ++ line) (sym g.whole) in
    subst P whole (WritesBeginning_after old mid new g.done sent g.written w)

-- What was gathered, and then a beginning of it.
pub gathered_begun : (old mid new : Option (List ℕ)) (block text : List ℕ) → IsGathered old mid block text
    → WritesBeginning mid new block → WritesBeginning old new text
gathered_begun old mid new block text g w =
    let P : List ℕ → Type 0 = λ t. WritesBeginning old new t in
    subst P (append-nil text) (gathered_begins old mid new block text [] block g (sym (append-nil block)) w)

-- What was gathered, and then all of it and the rest.
pub gathered_appends : (old mid new : Option (List ℕ)) (block text line : List ℕ) → IsGathered old mid block text
    → Appends mid new (block ++ line) → Appends old new (text ++ line)
gathered_appends old mid new block text line g w =
    let P : List ℕ → Type 0 = λ t. Appends old new t in
    let whole : g.done ++ (block ++ line) ≡ text ++ line = sym (append_assoc g.done block line) ∙ ap (λ t. t ++ line) (sym g.whole) in
    subst P whole (Appends_twice old mid new g.done (block ++ line) g.written w)

-- What was gathered, and then all of it.
gathered_whole : (old mid new : Option (List ℕ)) (block text : List ℕ) → IsGathered old mid block text
    → Appends mid new block → Appends old new text
gathered_whole old mid new block text g w =
    let P : List ℕ → Type 0 = λ t. Appends old new t in
    subst P (sym g.whole) (Appends_twice old mid new g.done block g.written w)

-- All that was written, with nothing that waits.
pub gathered_all : (old new : Option (List ℕ)) (text : List ℕ) → Appends old new text → IsGathered old new [] text
gathered_all old new text w = record { done = text; written = w; whole = sym (append-nil text) }

pub written_all : (old new : Option (List ℕ)) (text : List ℕ) → IsGathered old new [] text → Appends old new text
written_all old new text g =
    let P : List ℕ → Type 0 = λ t. Appends old new t in
    subst P (sym (g.whole ∙ append-nil g.done)) g.written

pub gathered_written : (old mid new : Option (List ℕ)) (block text : List ℕ) → IsGathered old mid block text
    → Appends mid new block → IsGathered old new [] text
gathered_written old mid new block text g w = gathered_all old new text (gathered_whole old mid new block text g w)

-- Nothing more.
pub gathered_nothing : (out : Option (List ℕ)) (block : List ℕ) → IsGathered out out block (block ++ [])
gathered_nothing out block = record { done = []; written = Appends_none out; whole = append-nil block }

-- More, after what was gathered.
pub gathered_twice : (old mid new : Option (List ℕ)) (block after text more : List ℕ) → IsGathered old mid block text
    → IsGathered mid new after (block ++ more) → IsGathered old new after (text ++ more)
gathered_twice old mid new block after text more g h = record {
  done = g.done ++ h.done;
  written = Appends_twice old mid new g.done h.done g.written h.written;
  whole = ap (λ t. t ++ more) g.whole ∙ append_assoc g.done block more ∙ ap (λ t. g.done ++ t) h.whole ∙
      sym (append_assoc g.done h.done after);
}

-- More in the block.
pub gathered_more : (old new : Option (List ℕ)) (block after text more : List ℕ) → IsGathered old new block text
    → after ≡ block ++ more → IsGathered old new after (text ++ more)
gathered_more old new block after text more g e = record {
  done = g.done;
  written = g.written;
  whole = ap (λ t. t ++ more) g.whole ∙ append_assoc g.done block more ∙ ap (λ t. g.done ++ t) (sym e);
}

more_pieces : {X : Type 0} (f : X → List ℕ) (xs : List X) (i : ℕ) (d x : X) → i < length xs → get_or xs i d ≡ x
    → flat_map f (take (i + 1) xs) ≡ flat_map f (take i xs) ++ f x
more_pieces f xs i d x h e =
    ap (flat_map f) (take_more xs i d h) ∙ flat_map-append f (take i xs) (get_or xs i d ∷ []) ∙
    ap (λ t. flat_map f (take i xs) ++ t) (append-nil (f (get_or xs i d)) ∙ ap f e)

-- One more line.
pub list_step : {X : Type 0} (f : X → List ℕ) (xs : List X) (i : ℕ) (d x : X) (old mid new : Option (List ℕ))
    (before block room after : List ℕ)
    → i < length xs → get_or xs i d ≡ x
    → IsGathered old mid block (before ++ flat_map f (take i xs)) → IsGathered mid new room block → after ≡ room ++ f x
    → IsGathered old new after (before ++ flat_map f (take (i + 1) xs))
list_step f xs i d x old mid new before block room after h e g r m =
    let P : List ℕ → Type 0 = λ t. IsGathered old new after t in
    let text = flat_map f (take i xs) in
    subst P (append_assoc before text (f x) ∙ ap (λ t. before ++ t) (sym (more_pieces f xs i d x h e)))
    (gathered_twice old mid new block after (before ++ text) (f x) g (gathered_more mid new room after block (f x) r m))

-- All pieces are the first ones and the others.
all_pieces : {X : Type 0} (f : X → List ℕ) (xs : List X) (i : ℕ)
    → flat_map f xs ≡ flat_map f (take i xs) ++ flat_map f (drop i xs)
all_pieces f xs i = ap (flat_map f) (sym (take-append-drop i xs)) ∙ flat_map-append f (take i xs) (drop i xs)

-- The device failed among the lines.
pub list_stops : {X : Type 0} (f : X → List ℕ) (xs : List X) (i : ℕ) (last : List ℕ) (old mid new : Option (List ℕ))
    (before block : List ℕ)
    → IsGathered old mid block (before ++ flat_map f (take i xs)) → WritesBeginning mid new block
    → WritesBeginning old new (before ++ (flat_map f xs ++ last))
list_stops f xs i last old mid new before block g w =
    let P : List ℕ → Type 0 = λ t. WritesBeginning old new t in
    let first = flat_map f (take i xs) in
    let rest = flat_map f (drop i xs) in
    let whole : (before ++ first) ++ (rest ++ last) ≡ before ++ (flat_map f xs ++ last) =
    append_assoc before first (rest ++ last) ∙ ap (λ t. before ++ t) (sym (append_assoc first rest last) ∙
    ap (λ t. t ++ last) (sym (all_pieces f xs i))) in
    subst P whole (begins_more old new (before ++ first) (rest ++ last) (gathered_begun old mid new block (before ++ first) g w))

-- The device failed among lines that none follows.
pub lines_stop : {X : Type 0} (f : X → List ℕ) (xs : List X) (i : ℕ) (old mid new : Option (List ℕ))
    (before block : List ℕ)
    → IsGathered old mid block (before ++ flat_map f (take i xs)) → WritesBeginning mid new block
    → WritesBeginning old new (before ++ flat_map f xs)
lines_stop f xs i old mid new before block g w =
    let P : List ℕ → Type 0 = λ t. WritesBeginning old new (before ++ t) in
    subst P (append-nil (flat_map f xs)) (list_stops f xs i [] old mid new before block g w)

-- All lines were gathered.
pub list_whole : {X : Type 0} (f : X → List ℕ) (xs : List X) (i : ℕ) → i ≡ length xs
    → flat_map f (take i xs) ≡ flat_map f xs
list_whole f xs i e = ap (flat_map f) (take_all i xs (omega arith))

-- The last line of a list.
pub list_ended : (old mid new : Option (List ℕ)) (before block after text whole last : List ℕ) → text ≡ whole
    → IsGathered old mid block (before ++ text) → IsGathered mid new after (block ++ last)
    → IsGathered old new after (before ++ (whole ++ last))
list_ended old mid new before block after text whole last e g h =
    let P : List ℕ → Type 0 = λ t. IsGathered old new after t in
    subst P (append_assoc before text last ∙ ap (λ t. before ++ (t ++ last)) e)
    (gathered_twice old mid new block after (before ++ text) last g h)

-- The device failed at the end of the list.
pub list_begun : (old mid new : Option (List ℕ)) (before block text whole last : List ℕ) → text ≡ whole
    → IsGathered old mid block (before ++ text) → WritesBeginning mid new (block ++ last)
    → WritesBeginning old new (before ++ (whole ++ last))
list_begun old mid new before block text whole last e g w =
    let P : List ℕ → Type 0 = λ t. WritesBeginning old new t in
    subst P (append_assoc before text last ∙ ap (λ t. before ++ (t ++ last)) e)
    (gathered_begins old mid new block (before ++ text) last (block ++ last) g refl w)

-- Three parts, one after another.
pub parts_gathered : (old mid next new : Option (List ℕ)) (before block second after first middle last : List ℕ)
    → IsGathered old mid block (before ++ first) → IsGathered mid next second (block ++ middle)
    → IsGathered next new after (second ++ last) → IsGathered old new after (before ++ (first ++ (middle ++ last)))
parts_gathered old mid next new before block second after first middle last g h k =
    let P : List ℕ → Type 0 = λ t. IsGathered old new after t in
    subst P (append_assoc before first (middle ++ last))
    (gathered_twice old mid new block after (before ++ first) (middle ++ last) g
    (let Q : List ℕ → Type 0 = λ t. IsGathered mid new after t in
    subst Q (append_assoc block middle last) (gathered_twice mid next new second after (block ++ middle) last h k)))

-- The device failed in the first, the second or the third part.
pub first_begins : (old new : Option (List ℕ)) (before first rest : List ℕ) → WritesBeginning old new (before ++ first)
    → WritesBeginning old new (before ++ (first ++ rest))
first_begins old new before first rest w =
    let P : List ℕ → Type 0 = λ t. WritesBeginning old new t in
    subst P (append_assoc before first rest) (begins_more old new (before ++ first) rest w)

pub second_begins : (old mid new : Option (List ℕ)) (before block first middle rest : List ℕ)
    → IsGathered old mid block (before ++ first) → WritesBeginning mid new (block ++ middle)
    → WritesBeginning old new (before ++ (first ++ (middle ++ rest)))
second_begins old mid new before block first middle rest g w =
    let P : List ℕ → Type 0 = λ t. WritesBeginning old new t in
    subst P (append_assoc before first (middle ++ rest))
    (gathered_begins old mid new block (before ++ first) (middle ++ rest) (block ++ (middle ++ rest)) g refl
    (first_begins mid new block middle rest w))

pub third_begins : (old mid next new : Option (List ℕ)) (before block second first middle last : List ℕ)
    → IsGathered old mid block (before ++ first) → IsGathered mid next second (block ++ middle)
    → WritesBeginning next new (second ++ last) → WritesBeginning old new (before ++ (first ++ (middle ++ last)))
third_begins old mid next new before block second first middle last g h w =
    let P : List ℕ → Type 0 = λ t. WritesBeginning old new t in
    let Q : List ℕ → Type 0 = λ t. IsGathered old next second t in
    let two : IsGathered old next second ((before ++ first) ++ middle) = gathered_twice old mid next block second (before ++ first) middle g
    h in
    subst P (append_assoc (before ++ first) middle last ∙ append_assoc before first (middle ++ last))
    (gathered_begins old next new second ((before ++ first) ++ middle) last (second ++ last) two refl w)
