-- The steps of loops that write and read the words of a block: one cell, death or queue at a time.
use Rattle.std.proofs.Common.{◌≡◌, ◌≢◌, ℕ, zero, suc, ◌+◌, ◌*◌, ◌-◌, ◌<◌, ◌≤◌, List, [], ◌∷◌, ◌++◌, length, take, drop, get_or, set, refl, ap, sym, ◌∙◌, subst, arith, append_assoc, length-drop, length-append, length-take-le, add-one, drop-drop, drop_at, take_at, take-add, append-nil, Option, None, Some, All}
use Rattle.std.proofs.lemmas.List.{length-map, take_more, take-map, map-append}
use Rattle.std.proofs.lemmas.List.Sums.{sum_by-cons, sum_by_push, sum_by_more, sum_by-take-le}
use borrow.Rule.Slice.PartMut.{put_mid}
use Rattle.mars_core.specs.State.{is_empty, first_live, live_from, survivors_of}
use Rattle.mars_cell.specs.declared.instruction.Cell.{Cell}
use Rattle.mars_cell.specs.Cells.{FitsCore, empty_cell}
use Rattle.mars_core.specs.Validity.{IsCore, IsQueue}
use Rattle.mars_core.specs.Block.{tags_word, cell_words, core_words, death_words, lengths_of}
use Rattle.mars_core.specs.Queue.{Queue, addresses_of}
use Rattle.mars_core.specs.declared.deaths.Death.{Death}
use Rattle.std.specs.List.{concat}
use Rattle.std.specs.Prelude.{sum, option_map, if◌then◌else◌}

pub length-core_words : (cells : List Cell) → length (core_words cells) ≡ 3 * length cells
length-core_words [] = refl
length-core_words (c ∷ cells) = let h = length-core_words cells in omega (arith, h)

pub core_words-append : (xs ys : List Cell) → core_words (xs ++ ys) ≡ core_words xs ++ core_words ys
core_words-append [] ys = refl
core_words-append (c ∷ xs) ys = ap (λ (l : List ℕ). tags_word c ∷ c.a ∷ c.b ∷ l) (core_words-append xs ys)

-- The words of the first `i + 1` cells are those of the first `i` cells and of one more cell.
core_words_next : (cells : List Cell) (i : ℕ) (d : Cell) → i < length cells → core_words (take (suc i) cells) ≡ core_words (take i cells) ++ cell_words (get_or cells i d)
core_words_next [] i d h = absurd (omega arith)
core_words_next (c ∷ cells) zero d h = refl
core_words_next (c ∷ cells) (suc i) d h = ap (λ (l : List ℕ). tags_word c ∷ c.a ∷ c.b ∷ l) (core_words_next cells i d (omega arith))

pub core_words_more : (cells : List Cell) (i : ℕ) (d : Cell) → i < length cells → core_words (take (i + 1) cells) ≡ core_words (take i cells) ++ cell_words (get_or cells i d)
core_words_more cells i d h = rw (add-one i) (core_words_next cells i d h)

-- Three words are written after the first `n` words.
three_next : (xs ys : List ℕ) (n t a b : ℕ) → length xs ≡ n → 3 ≤ length ys → set (set (set (xs ++ ys) n t) (suc n) a) (suc (suc n)) b ≡ xs ++ t ∷ a ∷ b ∷ drop 3 ys
three_next [] [] n t a b e h = absurd (omega arith)
three_next [] (x ∷ []) n t a b e h = absurd (omega arith)
three_next [] (x ∷ y ∷ []) n t a b e h = absurd (omega arith)
three_next [] (x ∷ y ∷ z ∷ ys) zero t a b e h = refl
three_next [] (x ∷ y ∷ z ∷ ys) (suc n) t a b e h = absurd (omega arith)
three_next (x ∷ xs) ys zero t a b e h = absurd (omega arith)
three_next (x ∷ xs) ys (suc n) t a b e h = ap (λ (l : List ℕ). x ∷ l) (three_next xs ys n t a b (omega arith) h)

three_set : (xs ys : List ℕ) (n t a b : ℕ) → length xs ≡ n → 3 ≤ length ys → set (set (set (xs ++ ys) n t) (n + 1) a) (n + 2) b ≡ xs ++ t ∷ a ∷ b ∷ drop 3 ys
three_set xs ys n t a b e h =
    let one : n + 1 ≡ suc n = omega arith in
    let two : n + 2 ≡ suc (suc n) = omega arith in
    ap (λ (k : ℕ). set (set (set (xs ++ ys) n t) k a) (n + 2) b) one
    ∙ ap (λ (k : ℕ). set (set (set (xs ++ ys) n t) (suc n) a) k b) two
    ∙ three_next xs ys n t a b e h

-- The words of a cell are written after those of the cells before it.
pub cell_written : (cells : List Cell) (i : ℕ) (d : Cell) (words before : List ℕ) → i < length cells → length before ≡ 3 * length cells → words ≡ core_words (take i cells) ++ drop (3 * i) before
    → set (set (set words (3 * i) (tags_word (get_or cells i d))) (3 * i + 1) (get_or cells i d).a) (3 * i + 2) (get_or cells i d).b ≡ core_words (take (i + 1) cells) ++ drop (3 * (i + 1)) before
cell_written cells i d words before h n e =
    let front = core_words (take i cells) in
    let long : length front ≡ 3 * i = length-core_words (take i cells) ∙ ap (λ (k : ℕ). 3 * k) (length-take-le i cells (omega arith)) in
    let room : 3 ≤ length (drop (3 * i) before) = omega (arith, length-drop (3 * i) before) in
    let rest : drop 3 (drop (3 * i) before) ≡ drop (3 * (i + 1)) before = drop-drop 3 (3 * i) before ∙ ap (λ (k : ℕ). drop k before) (omega arith) in
    ap (λ (w : List ℕ). set (set (set w (3 * i) (tags_word (get_or cells i d))) (3 * i + 1) (get_or cells i d).a) (3 * i + 2) (get_or cells i d).b) e
    ∙ three_set front (drop (3 * i) before) (3 * i) _ _ _ long room
    ∙ ap (λ (l : List ℕ). front ++ tags_word (get_or cells i d) ∷ (get_or cells i d).a ∷ (get_or cells i d).b ∷ l) rest
    ∙ sym (append_assoc front (cell_words (get_or cells i d)) (drop (3 * (i + 1)) before))
    ∙ ap (λ (l : List ℕ). l ++ drop (3 * (i + 1)) before) (sym (core_words_more cells i d h))

-- The first `n + 3` words are the first `n` words and three more words.
take_three : (words : List ℕ) (n : ℕ) → n + 2 < length words → take (n + 3) words ≡ take n words ++ get_or words n 0 ∷ get_or words (n + 1) 0 ∷ get_or words (n + 2) 0 ∷ []
take_three words n h =
    let one : take (n + 1) words ≡ take n words ++ get_or words n 0 ∷ [] = take_more words n 0 (omega arith) in
    let two : take (n + 1 + 1) words ≡ take (n + 1) words ++ get_or words (n + 1) 0 ∷ [] = take_more words (n + 1) 0 (omega arith) in
    let three : take (n + 2 + 1) words ≡ take (n + 2) words ++ get_or words (n + 2) 0 ∷ [] = take_more words (n + 2) 0 (omega arith) in
    ap (λ (k : ℕ). take k words) (omega arith)
    ∙ three
    ∙ ap (λ (l : List ℕ). l ++ get_or words (n + 2) 0 ∷ []) (ap (λ (k : ℕ). take k words) (omega arith) ∙ two)
    ∙ ap (λ (l : List ℕ). l ++ get_or words (n + 1) 0 ∷ [] ++ get_or words (n + 2) 0 ∷ []) one
    ∙ append_assoc (take n words ++ get_or words n 0 ∷ []) (get_or words (n + 1) 0 ∷ []) (get_or words (n + 2) 0 ∷ [])
    ∙ append_assoc (take n words) (get_or words n 0 ∷ []) (get_or words (n + 1) 0 ∷ get_or words (n + 2) 0 ∷ [])

-- With one more cell read, the cells have the words of the first `i + 1` cells.
pub cell_read : (cells : List Cell) (c : Cell) (words : List ℕ) (i : ℕ) → core_words cells ≡ take (3 * i) words → cell_words c ≡ get_or words (3 * i) 0 ∷ get_or words (3 * i + 1) 0 ∷ get_or words (3 * i + 2) 0 ∷ [] → 3 * i + 2 < length words
    → core_words (cells ++ c ∷ []) ≡ take (3 * (i + 1)) words
cell_read cells c words i e f h =
    core_words-append cells (c ∷ [])
    ∙ ap (λ (l : List ℕ). l ++ cell_words c) e
    ∙ ap (λ (l : List ℕ). take (3 * i) words ++ l) f
    ∙ sym (take_three words (3 * i) h)
    ∙ ap (λ (k : ℕ). take k words) (omega arith)

-- The words of the cell at the index `i`.
tags_at : (cells : List Cell) (i : ℕ) (d : Cell) → i < length cells → get_or (core_words cells) (3 * i) 0 ≡ tags_word (get_or cells i d)
tags_at [] i d h = absurd (omega arith)
tags_at (c ∷ cells) zero d h = refl
tags_at (c ∷ cells) (suc i) d h = ap (λ (k : ℕ). get_or (core_words (c ∷ cells)) k 0) (three_more i) ∙ tags_at cells i d (omega arith) where
  three_more : (i : ℕ) → 3 * suc i ≡ suc (suc (suc (3 * i)))
  three_more i = omega arith

a_at : (cells : List Cell) (i : ℕ) (d : Cell) → i < length cells → get_or (core_words cells) (3 * i + 1) 0 ≡ (get_or cells i d).a
a_at [] i d h = absurd (omega arith)
a_at (c ∷ cells) zero d h = refl
a_at (c ∷ cells) (suc i) d h = ap (λ (k : ℕ). get_or (core_words (c ∷ cells)) k 0) (three_more i) ∙ a_at cells i d (omega arith) where
  three_more : (i : ℕ) → 3 * suc i + 1 ≡ suc (suc (suc (3 * i + 1)))
  three_more i = omega arith

b_at : (cells : List Cell) (i : ℕ) (d : Cell) → i < length cells → get_or (core_words cells) (3 * i + 2) 0 ≡ (get_or cells i d).b
b_at [] i d h = absurd (omega arith)
b_at (c ∷ cells) zero d h = refl
b_at (c ∷ cells) (suc i) d h = ap (λ (k : ℕ). get_or (core_words (c ∷ cells)) k 0) (three_more i) ∙ b_at cells i d (omega arith) where
  three_more : (i : ℕ) → 3 * suc i + 2 ≡ suc (suc (suc (3 * i + 2)))
  three_more i = omega arith

-- If three words are not those of a cell that fits the core, the words are not those of a core.
pub no_cell : (size : ℕ) (words : List ℕ) (i : ℕ) → i < size → ((c : Cell) → FitsCore size c → cell_words c ≢ get_or words (3 * i) 0 ∷ get_or words (3 * i + 1) 0 ∷ get_or words (3 * i + 2) 0 ∷ [])
    → (cells : List Cell) → IsCore size cells → core_words cells ≢ words
no_cell size words i h none cells core e =
    let l : i < length cells = omega (arith, core.size) in
    let t : tags_word (get_or cells i empty_cell) ≡ get_or words (3 * i) 0 = sym (tags_at cells i empty_cell l) ∙ ap (λ (w : List ℕ). get_or w (3 * i) 0) e in
    let a : (get_or cells i empty_cell).a ≡ get_or words (3 * i + 1) 0 = sym (a_at cells i empty_cell l) ∙ ap (λ (w : List ℕ). get_or w (3 * i + 1) 0) e in
    let b : (get_or cells i empty_cell).b ≡ get_or words (3 * i + 2) 0 = sym (b_at cells i empty_cell l) ∙ ap (λ (w : List ℕ). get_or w (3 * i + 2) 0) e in
    none (get_or cells i empty_cell) (core.cells i empty_cell l)
    (ap (λ (w : ℕ). w ∷ (get_or cells i empty_cell).a ∷ (get_or cells i empty_cell).b ∷ []) t
    ∙ ap (λ (w : ℕ). get_or words (3 * i) 0 ∷ w ∷ (get_or cells i empty_cell).b ∷ []) a
    ∙ ap (λ (w : ℕ). get_or words (3 * i) 0 ∷ get_or words (3 * i + 1) 0 ∷ w ∷ []) b)

pub length-death_words : (deaths : List Death) → length (death_words deaths) ≡ 2 * length deaths
length-death_words [] = refl
length-death_words (d ∷ deaths) = let h = length-death_words deaths in omega (arith, h)

pub death_words-append : (xs ys : List Death) → death_words (xs ++ ys) ≡ death_words xs ++ death_words ys
death_words-append [] ys = refl
death_words-append (d ∷ xs) ys = ap (λ (l : List ℕ). d.warrior ∷ d.turns ∷ l) (death_words-append xs ys)

-- The words of the first `i + 1` deaths are those of the first `i` deaths and of one more death.
pub death_words_more : (deaths : List Death) (i : ℕ) (d : Death) → i < length deaths → death_words (take (i + 1) deaths) ≡ death_words (take i deaths) ++ (get_or deaths i d).warrior ∷ (get_or deaths i d).turns ∷ []
death_words_more deaths i d h =
    ap death_words (take_more deaths i d h) ∙ death_words-append (take i deaths) (get_or deaths i d ∷ [])

take_two : (words : List ℕ) (n : ℕ) → n + 1 < length words → take (n + 2) words ≡ take n words ++ get_or words n 0 ∷ get_or words (n + 1) 0 ∷ []
take_two words n h =
    let one : take (n + 1) words ≡ take n words ++ get_or words n 0 ∷ [] = take_more words n 0 (omega arith) in
    let two : take (n + 1 + 1) words ≡ take (n + 1) words ++ get_or words (n + 1) 0 ∷ [] = take_more words (n + 1) 0 (omega arith) in
    ap (λ (k : ℕ). take k words) (omega arith)
    ∙ two
    ∙ ap (λ (l : List ℕ). l ++ get_or words (n + 1) 0 ∷ []) one
    ∙ append_assoc (take n words) (get_or words n 0 ∷ []) (get_or words (n + 1) 0 ∷ [])

-- With one more death read, the deaths have the words of the first `i + 1` deaths.
pub death_read : (deaths : List Death) (d : Death) (words : List ℕ) (i : ℕ) → death_words deaths ≡ take (2 * i) words → d.warrior ≡ get_or words (2 * i) 0 → d.turns ≡ get_or words (2 * i + 1) 0 → 2 * i + 1 < length words
    → death_words (deaths ++ d ∷ []) ≡ take (2 * (i + 1)) words
death_read deaths d words i e w t h =
    death_words-append deaths (d ∷ [])
    ∙ ap (λ (l : List ℕ). l ++ d.warrior ∷ d.turns ∷ []) e
    ∙ ap (λ (k : ℕ). take (2 * i) words ++ k ∷ d.turns ∷ []) w
    ∙ ap (λ (k : ℕ). take (2 * i) words ++ get_or words (2 * i) 0 ∷ k ∷ []) t
    ∙ sym (take_two words (2 * i) h)
    ∙ ap (λ (k : ℕ). take k words) (omega arith)

-- The first `i + 1` queues have as many processes as the first `i` queues and one more queue.
pub processes_more : (queues : List Queue) (i : ℕ) (q : Queue) → i < length queues → q ≡ get_or queues i q → sum (lengths_of (addresses_of (take (i + 1) queues))) ≡ sum (lengths_of (addresses_of (take i queues))) + length q.addresses
processes_more queues i q h e =
    let one : take (i + 1) queues ≡ take i queues ++ q ∷ [] = take_more queues i q h ∙ ap (λ (x : Queue). take i queues ++ x ∷ []) (sym e) in
    ap (λ (l : List Queue). sum (lengths_of (addresses_of l))) one
    ∙ ap (λ (l : List (List ℕ)). sum (lengths_of l)) (map-append (λ (x : Queue). x.addresses) (take i queues) (q ∷ []))
    ∙ ap sum (map-append (λ (x : List ℕ). length x) (addresses_of (take i queues)) (q.addresses ∷ []))
    ∙ sum_by_push (λ (x : ℕ). x) (lengths_of (addresses_of (take i queues))) (length q.addresses)

pub processes_within : (queues : List Queue) (i : ℕ) → sum (lengths_of (addresses_of (take i queues))) ≤ sum (lengths_of (addresses_of queues))
processes_within queues i =
    let e : lengths_of (addresses_of (take i queues)) ≡ take i (lengths_of (addresses_of queues)) =
    ap lengths_of (sym (take-map (λ (x : Queue). x.addresses) i queues)) ∙ sym (take-map (λ (x : List ℕ). length x) i (addresses_of queues)) in
    rw e (sum_by-take-le (λ (x : ℕ). x) (lengths_of (addresses_of queues)) i)

pub length-concat : (queues : List (List ℕ)) → length (concat queues) ≡ sum (lengths_of queues)
length-concat [] = refl
length-concat (q ∷ queues) = length-append q (concat queues) ∙ ap (λ (n : ℕ). length q + n) (length-concat queues) ∙ sym (sum_by-cons (λ (x : ℕ). x) (length q) (lengths_of queues))

concat_push : (xss : List (List ℕ)) (xs : List ℕ) → concat (xss ++ xs ∷ []) ≡ concat xss ++ xs
concat_push [] xs = append-nil xs
concat_push (ys ∷ xss) xs = ap (λ (l : List ℕ). ys ++ l) (concat_push xss xs) ∙ sym (append_assoc ys (concat xss) xs)

concat_more : (queues : List Queue) (i : ℕ) (q : Queue) → i < length queues → q ≡ get_or queues i q → concat (addresses_of (take (i + 1) queues)) ≡ concat (addresses_of (take i queues)) ++ q.addresses
concat_more queues i q h e =
    let one : take (i + 1) queues ≡ take i queues ++ q ∷ [] = take_more queues i q h ∙ ap (λ (x : Queue). take i queues ++ x ∷ []) (sym e) in
    ap (λ (l : List Queue). concat (addresses_of l)) one
    ∙ ap concat (map-append (λ (x : Queue). x.addresses) (take i queues) (q ∷ []))
    ∙ concat_push (addresses_of (take i queues)) q.addresses

-- A queue is written after those before it.
pub queue_written : (queues : List Queue) (i : ℕ) (q : Queue) (place : ℕ) (words before : List ℕ) (k : ℕ) → i < length queues → q ≡ get_or queues i q
    → place ≡ sum (lengths_of (addresses_of (take i queues))) → words ≡ concat (addresses_of (take i queues)) ++ drop place before → k ≡ length q.addresses
    → put_mid place k words q.addresses ≡ concat (addresses_of (take (i + 1) queues)) ++ drop (place + length q.addresses) before
queue_written queues i q place words before k h e p w n =
    let front = concat (addresses_of (take i queues)) in
    let long : length front ≡ place = length-concat (addresses_of (take i queues)) ∙ sym p in
    let first : take place words ≡ front = ap (take place) w ∙ take_at front (drop place before) place long in
    let last : drop k (drop place words) ≡ drop (place + length q.addresses) before =
    ap (λ (l : List ℕ). drop k (drop place l)) w ∙ ap (drop k) (drop_at front (drop place before) place long) ∙ drop-drop k place before ∙ ap (λ (m : ℕ). drop (place + m) before) n in
    ap (λ (l : List ℕ). l ++ (q.addresses ++ drop k (drop place words))) first
    ∙ ap (λ (l : List ℕ). front ++ (q.addresses ++ l)) last
    ∙ sym (append_assoc front q.addresses (drop (place + length q.addresses) before))
    ∙ ap (λ (l : List ℕ). l ++ drop (place + length q.addresses) before) (sym (concat_more queues i q h e))

-- If the search for the first live warrior finds none, no warrior lives; if it finds one, a warrior lives.
none_before : (o : Option ℕ) (f : ℕ → ℕ) → option_map f o ≡ None → o ≡ None
none_before None f h = refl
none_before (Some k) f h = absurd (cc)

no_first : (queues : List (List ℕ)) → first_live queues ≡ None → survivors_of queues ≡ 0
no_first [] h = refl
no_first ([] ∷ queues) h =
    let first : survivors_of ([] ∷ queues) ≡ 0 + survivors_of queues = sum_by-cons (λ (q : List ℕ). if is_empty q then 0 else 1) [] queues in
    omega (arith, first, no_first queues (none_before (first_live queues) suc h))
no_first ((x ∷ q) ∷ queues) h = absurd (cc)

pub none_survive : (queues : List (List ℕ)) → live_from queues 0 ≡ None → survivors_of queues ≡ 0
none_survive queues h = no_first queues (none_before (first_live queues) (λ k. 0 + k) h)

pub some_survive : (queues : List (List ℕ)) (k : ℕ) → live_from queues 0 ≡ Some k → 1 ≤ survivors_of queues
some_survive [] k h = absurd (cc)
some_survive ([] ∷ queues) k h =
    let rest : survivors_of ([] ∷ queues) ≡ 0 + survivors_of queues = sum_by-cons (λ (q : List ℕ). if is_empty q then 0 else 1) [] queues in
    let live = later (first_live queues) k h in
    omega (arith, rest, some_survive queues live.0 live.1) where
      later : (o : Option ℕ) (k : ℕ) → option_map (λ j. 0 + j) (option_map suc o) ≡ Some k → (j : ℕ) × (option_map (λ j. 0 + j) o ≡ Some j)
      later None k h = absurd (cc)
      later (Some j) k h = (0 + j, refl)
some_survive ((x ∷ q) ∷ queues) k h =
    let first : survivors_of ((x ∷ q) ∷ queues) ≡ 1 + survivors_of queues = sum_by-cons (λ (q : List ℕ). if is_empty q then 0 else 1) (x ∷ q) queues in
    omega (arith, first)

-- With one more queue read, the queues have the counts and the processes of the first `i + 1` queues.
pub queue_read : (queues : List Queue) (q : Queue) (counts words : List ℕ) (i place : ℕ) → lengths_of (addresses_of queues) ≡ take i counts → concat (addresses_of queues) ≡ take place words → i < length counts → q.addresses ≡ take (place + get_or counts i 0 - place) (drop place words)
    → place + get_or counts i 0 ≤ length words
    → (lengths_of (addresses_of (queues ++ q ∷ [])) ≡ take (i + 1) counts) × (concat (addresses_of (queues ++ q ∷ [])) ≡ take (place + get_or counts i 0) words)
queue_read queues q counts words i place l w h e r =
    let n = get_or counts i 0 in
    let long : length q.addresses ≡ n = ap length e ∙ length-take-le (place + n - place) (drop place words) (omega (arith, length-drop place words)) ∙ (omega arith) in
    let all : addresses_of (queues ++ q ∷ []) ≡ addresses_of queues ++ q.addresses ∷ [] = map-append (λ (x : Queue). x.addresses) queues (q ∷ []) in (
      ap lengths_of all ∙ map-append (λ (x : List ℕ). length x) (addresses_of queues) (q.addresses ∷ []) ∙ ap (λ (m : List ℕ). m ++ length q.addresses ∷ []) l ∙ ap (λ (m : ℕ). take i counts ++ m ∷ []) long ∙ sym (take_more counts i 0 h),
      ap concat all ∙ concat_push (addresses_of queues) q.addresses ∙ ap (λ (m : List ℕ). m ++ q.addresses) w ∙ ap (λ (m : List ℕ). take place words ++ m) (e ∙ ap (λ (m : ℕ). take m (drop place words)) (omega arith)) ∙ sym (take-add place n words),
    )

-- The sum of the first `i + 1` counts is the sum of the first `i` counts and the next count.
pub counts_more : (counts : List ℕ) (i : ℕ) → i < length counts → sum (take (i + 1) counts) ≡ sum (take i counts) + get_or counts i 0
counts_more counts i h = sum_by_more (λ (x : ℕ). x) counts i 0 h

-- The processes of the queue at the index `i`, among those of all queues.
concat_at : (queues : List (List ℕ)) (i : ℕ) → i < length queues → take (length (get_or queues i [])) (drop (sum (lengths_of (take i queues))) (concat queues)) ≡ get_or queues i []
concat_at [] i h = absurd (omega arith)
concat_at (q ∷ queues) zero h = take_at q (concat queues) (length q) refl
concat_at (q ∷ queues) (suc i) h =
    let s = sum (lengths_of (take i queues)) in
    let e : sum (lengths_of (q ∷ take i queues)) ≡ length q + s = sum_by-cons (λ (x : ℕ). x) (length q) (lengths_of (take i queues)) in
    let d : drop (sum (lengths_of (q ∷ take i queues))) (q ++ concat queues) ≡ drop s (concat queues) =
    ap (λ (n : ℕ). drop n (q ++ concat queues)) e ∙ sym (drop-drop s (length q) (q ++ concat queues)) ∙ ap (drop s) (drop_at q (concat queues) (length q) refl) in
    ap (take (length (get_or queues i []))) d ∙ concat_at queues i (omega arith)

-- If the processes of one queue are not those of a valid queue, all processes are not those of valid queues.
pub no_queue : (size processes : ℕ) (counts words : List ℕ) (i place : ℕ) → i < length counts → place ≡ sum (take i counts) → (IsQueue size processes (take (place + get_or counts i 0 - place) (drop place words)) → ⊥)
    → (queues : List (List ℕ)) → All (IsQueue size processes) queues → lengths_of queues ≡ counts → concat queues ≢ words
no_queue size processes counts words i place h p refused queues all l w =
    let many : length queues ≡ length counts = sym (length-map queues (λ (x : List ℕ). length x)) ∙ ap length l in
    let inside : i < length queues = omega (arith, many) in
    let before : sum (lengths_of (take i queues)) ≡ place = ap sum (sym (take-map (λ (x : List ℕ). length x) i queues) ∙ ap (take i) l) ∙ sym p in
    let here : length (get_or queues i []) ≡ get_or counts i 0 = sym (length_at queues i inside) ∙ ap (λ (m : List ℕ). get_or m i 0) l in
    let these : get_or queues i [] ≡ take (place + get_or counts i 0 - place) (drop place words) =
    sym (concat_at queues i inside) ∙ ap (λ (m : List ℕ). take (length (get_or queues i [])) (drop (sum (lengths_of (take i queues))) m)) w ∙ ap (λ (n : ℕ). take (length (get_or queues i [])) (drop n words)) before ∙ ap (λ (n : ℕ). take n (drop place words)) (omega (arith, here)) in
    refused (subst (IsQueue size processes) these (all i [] inside)) where
      length_at : (queues : List (List ℕ)) (i : ℕ) → i < length queues → get_or (lengths_of queues) i 0 ≡ length (get_or queues i [])
      length_at [] i h = absurd (omega arith)
      length_at (q ∷ queues) zero h = refl
      length_at (q ∷ queues) (suc i) h = length_at queues i (omega arith)
