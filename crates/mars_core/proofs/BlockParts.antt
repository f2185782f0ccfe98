-- The parts of a block and their lengths.
use Rattle.std.proofs.Common.{◌≡◌, ℕ, ◌+◌, ◌*◌, ◌-◌, ◌≤◌, List, [], ◌∷◌, ◌++◌, length, take, drop, get_or, refl, ap, sym, ◌∙◌, subst, arith, append_assoc, length-append, length-take-le, take-add, take-append-drop, drop-drop, drop_at, take_at, All}
use Rattle.std.specs.Prelude.{sum, if◌then◌else◌}
use Rattle.std.specs.List.{concat}
use Rattle.std.proofs.Common.{replicate}
use Rattle.std.proofs.lemmas.List.{length-map, length-replicate}
use Rattle.std.proofs.lemmas.List.Sums.{sum_by-le, sum-map}
use Rattle.mars_cell.specs.declared.instruction.Cell.{Cell}
use Rattle.mars_core.specs.State.{State, is_over_of, state_of}
use Rattle.mars_core.specs.Limits.{max_warriors}
use Rattle.mars_cell.specs.Parameters.{Parameters, AreInRange}
use Rattle.mars_core.specs.declared.deaths.Death.{Death}
use Rattle.mars_core.specs.declared.machine.clock.Clock.{Clock}
use Rattle.mars_core.specs.Validity.{AreDeaths, IsClock, IsCore, IsQueue, IsValid}
use Rattle.mars_core.specs.Block.{core_words, death_words, padded, lengths_of, words_of, field_words, head_of, block_of, params_in, Spells}
use Rattle.mars_core.specs.Queue.{Queue, addresses_of}
use Rattle.mars_core.proofs.Blocks.{length-core_words, length-death_words, length-concat}
use Rattle.mars_core.proofs.Counted.{valid_counted}

length-padded : (n : ℕ) (xs : List ℕ) → length xs ≤ n → length (padded n xs) ≡ n
length-padded n xs h = length-append xs (replicate (n - length xs) 0) ∙ ap (λ (k : ℕ). length xs + k) (length-replicate (n - length xs) 0) ∙ omega arith

length-field_words : (s : State) → length (field_words s) ≡ 16
unfolding field_words
length-field_words s = refl

pub few_deaths : (s : State) → IsValid s → length s.deaths ≤ 16
few_deaths s v = omega (arith, valid_counted s v, v.few)

pub length-lengths_of : (queues : List (List ℕ)) → length (lengths_of queues) ≡ length queues
length-lengths_of queues = length-map queues (λ (q : List ℕ). length q)

counts_fit : (s : State) → IsValid s → length (lengths_of s.queues) ≤ 16
counts_fit s v = omega (arith, length-lengths_of s.queues, v.few)

deaths_fit : (s : State) → IsValid s → length (death_words s.deaths) ≤ 32
deaths_fit s v = omega (arith, length-death_words s.deaths, few_deaths s v)

pub length-head_of : (s : State) → IsValid s → length (head_of s) ≡ 64
unfolding head_of
length-head_of s v =
    let all = length-append (field_words s ++ padded 16 (lengths_of s.queues)) (padded 32 (death_words s.deaths)) in
    let front = length-append (field_words s) (padded 16 (lengths_of s.queues)) in
    omega (arith, all, front, length-field_words s, length-padded 16 (lengths_of s.queues) (counts_fit s v), length-padded 32 (death_words s.deaths) (deaths_fit s v))

-- The length of a block.
pub length-block_of : (s : State) → IsValid s → length (block_of s) ≡ 64 + 3 * length s.core + sum (lengths_of s.queues)
unfolding block_of
length-block_of s v =
    let all = length-append (head_of s ++ core_words s.core) (concat s.queues) in
    let front = length-append (head_of s) (core_words s.core) in
    omega (arith, all, front, length-head_of s v, length-core_words s.core, length-concat s.queues)

-- The length of a block is at most 4194368, so it fits 32 bits.
pub few_words : (s : State) → IsValid s → 64 + 3 * length s.core + sum (lengths_of s.queues) ≤ 4194368
few_words s v =
    let each : sum (lengths_of s.queues) ≤ length s.queues * 65536 = rw (sum-map (λ (q : List ℕ). length q) s.queues) (sum_by-le (λ (q : List ℕ). length q) 65536 s.queues (λ k d h. omega (arith, (v.queues k d h).room, v.params.processes_most))) in
    omega (arith, each, v.few, v.core.size, v.params.core_most)

-- The maximum length of a block is enough for all queues.
pub room_words : (s : State) → IsValid s → 64 + 3 * length s.core + sum (lengths_of s.queues) ≤ 64 + 3 * s.params.core_size + length s.queues * s.params.processes
room_words s v =
    let each : sum (lengths_of s.queues) ≤ length s.queues * s.params.processes = rw (sum-map (λ (q : List ℕ). length q) s.queues) (sum_by-le (λ (q : List ℕ). length q) s.params.processes s.queues (λ k d h. (v.queues k d h).room)) in
    omega (arith, each, v.core.size)

-- The first sixteen words of the header of a state's block.
pub fields_are : (s : State) (words core processes cycles reads writes longest distance warriors turns cycle next over deaths : ℕ) → words ≡ words_of s → core ≡ s.params.core_size → processes ≡ s.params.processes → cycles ≡ s.params.cycles
    → reads ≡ s.params.read_limit → writes ≡ s.params.write_limit → longest ≡ s.params.max_length → distance ≡ s.params.distance → warriors ≡ length s.queues → turns ≡ s.turns → cycle ≡ s.cycle → next ≡ s.next
    → over ≡ (if is_over_of s then 1 else 0) → deaths ≡ length s.deaths
    → 22167885 ∷ words ∷ core ∷ processes ∷ cycles ∷ reads ∷ writes ∷ longest ∷ distance ∷ warriors ∷ turns ∷ cycle ∷ next ∷ over ∷ deaths ∷ 0 ∷ [] ≡ field_words s
unfolding field_words
fields_are s words core processes cycles reads writes longest distance warriors turns cycle next over deaths e1 e2 e3 e4 e5 e6 e7 e8 e9 e10 e11 e12 e13 e14 = cc

-- Words that begin with a state's block are the parts of this block, followed by the other words.
split_words : (s : State) (words : List ℕ) → Spells s words → words ≡ head_of s ++ (core_words s.core ++ (concat s.queues ++ drop (length (block_of s)) words))
unfolding block_of
split_words s words sp =
    sp.block
    ∙ append_assoc (head_of s ++ core_words s.core) (concat s.queues) (drop (length (block_of s)) words)
    ∙ append_assoc (head_of s) (core_words s.core) (concat s.queues ++ drop (length (block_of s)) words)

pub spelled_head : (s : State) (words : List ℕ) → Spells s words → take 64 words ≡ head_of s
spelled_head s words sp = ap (take 64) (split_words s words sp) ∙ take_at (head_of s) _ 64 (length-head_of s sp.valid)

after_head : (s : State) (words : List ℕ) → Spells s words → drop 64 words ≡ core_words s.core ++ (concat s.queues ++ drop (length (block_of s)) words)
after_head s words sp = ap (drop 64) (split_words s words sp) ∙ drop_at (head_of s) _ 64 (length-head_of s sp.valid)

pub spelled_cells : (s : State) (words : List ℕ) (n : ℕ) → Spells s words → n ≡ 3 * length s.core → take n (drop 64 words) ≡ core_words s.core
spelled_cells s words n sp e = ap (take n) (after_head s words sp) ∙ take_at (core_words s.core) _ n (length-core_words s.core ∙ sym e)

pub spelled_processes : (s : State) (words : List ℕ) (n m : ℕ) → Spells s words → n ≡ 3 * length s.core → m ≡ sum (lengths_of s.queues) → take m (drop n (drop 64 words)) ≡ concat s.queues
spelled_processes s words n m sp e f =
    ap (λ (l : List ℕ). take m (drop n l)) (after_head s words sp)
    ∙ ap (take m) (drop_at (core_words s.core) _ n (length-core_words s.core ∙ sym e))
    ∙ take_at (concat s.queues) _ m (length-concat s.queues ∙ sym f)

pub spelled_long : (s : State) (words : List ℕ) → Spells s words → 64 + 3 * length s.core + sum (lengths_of s.queues) ≤ length words
spelled_long s words sp =
    let all = ap length sp.block ∙ length-append (block_of s) (drop (length (block_of s)) words) in
    omega (arith, all, length-block_of s sp.valid)

-- The fields of the header of a state's block.
pub head_mark : (s : State) → get_or (head_of s) 0 0 ≡ 22167885
unfolding head_of field_words
head_mark s = refl

pub head_params : (s : State) → params_in (head_of s) ≡ s.params
unfolding head_of field_words
head_params s = refl

pub head_warriors : (s : State) → get_or (head_of s) 9 0 ≡ length s.queues
unfolding head_of field_words
head_warriors s = refl

pub head_counts : (s : State) (n : ℕ) → IsValid s → n ≡ length s.queues → take n (drop 16 (head_of s)) ≡ lengths_of s.queues
unfolding head_of
head_counts s n v e =
    let rest = padded 32 (death_words s.deaths) in
    let zeros = replicate (16 - length (lengths_of s.queues)) 0 in
    ap (λ (l : List ℕ). take n (drop 16 l)) (append_assoc (field_words s) (padded 16 (lengths_of s.queues)) rest)
    ∙ ap (take n) (drop_at (field_words s) (padded 16 (lengths_of s.queues) ++ rest) 16 (length-field_words s))
    ∙ ap (take n) (append_assoc (lengths_of s.queues) zeros rest)
    ∙ take_at (lengths_of s.queues) (zeros ++ rest) n (length-lengths_of s.queues ∙ sym e)

pub head_deaths : (s : State) (n : ℕ) → IsValid s → n ≡ length s.deaths → take (2 * n) (drop 32 (head_of s)) ≡ death_words s.deaths
unfolding head_of
head_deaths s n v e =
    let front = field_words s ++ padded 16 (lengths_of s.queues) in
    let long : length front ≡ 32 = length-append (field_words s) (padded 16 (lengths_of s.queues)) ∙ ap (λ (k : ℕ). length (field_words s) + k) (length-padded 16 (lengths_of s.queues) (counts_fit s v)) ∙ ap (λ (k : ℕ). k + 16) (length-field_words s) in
    ap (take (2 * n)) (drop_at front (padded 32 (death_words s.deaths)) 32 long)
    ∙ take_at (death_words s.deaths) _ (2 * n) (length-death_words s.deaths ∙ ap (λ (k : ℕ). 2 * k) (sym e))

-- The first three parts of words, appended, are the front of these words.
pub pieces : (words : List ℕ) (n m k : ℕ) (h o a p b : List ℕ) → h ≡ take n words → o ≡ drop n words → a ≡ take m o → p ≡ drop m o → b ≡ take k p → n + m + k ≤ length words
    → take (length (h ++ a ++ b)) words ≡ h ++ a ++ b
pieces words n m k h o a p b e f g i j r =
    let second : a ≡ take m (drop n words) = g ∙ ap (take m) f in
    let third : b ≡ take k (drop (n + m) words) = j ∙ ap (take k) (i ∙ ap (drop m) f ∙ drop-drop m n words) in
    let all : h ++ a ++ b ≡ take (n + m + k) words =
    ap (λ (l : List ℕ). l ++ a ++ b) e ∙ ap (λ (l : List ℕ). take n words ++ l ++ b) second ∙ ap (λ (l : List ℕ). l ++ b) (sym (take-add n m words)) ∙ ap (λ (l : List ℕ). take (n + m) words ++ l) third ∙ sym (take-add (n + m) k words) in
    let long : length (h ++ a ++ b) ≡ n + m + k = ap length all ∙ length-take-le (n + m + k) words r in
    ap (λ (l : ℕ). take l words) long ∙ sym all

pub head_deaths_count : (s : State) → get_or (head_of s) 14 0 ≡ length s.deaths
unfolding head_of field_words
head_deaths_count s = refl

-- A state is valid if its parts fit each other.
pub valid_parts : (params : Parameters) (core : List Cell) (queues these those : List Queue) (clock : Clock) (turns cycles : ℕ) (deaths others : List Death) → AreInRange params → IsCore params.core_size core → 1 ≤ length queues → length queues ≤ max_warriors
    → All (IsQueue params.core_size params.processes) (addresses_of queues) → these ≡ queues → those ≡ queues → others ≡ deaths → cycles ≡ params.cycles → AreDeaths (addresses_of these) others → IsClock cycles (addresses_of those) clock turns
    → IsValid (state_of params core queues clock.next clock.cycle turns deaths)
valid_parts params core queues these those clock turns cycles deaths others r c some few qs e f g n d t =
    let many : length (addresses_of queues) ≡ length queues = length-map queues (λ (q : Queue). q.addresses) in
    let died : AreDeaths (addresses_of queues) deaths = subst (λ (l : List Death). AreDeaths (addresses_of queues) l) g (subst (λ (l : List Queue). AreDeaths (addresses_of l) others) e d) in
    let clocked : IsClock params.cycles (addresses_of queues) clock turns = subst (λ (k : ℕ). IsClock k (addresses_of queues) clock turns) n (subst (λ (l : List Queue). IsClock cycles (addresses_of l) clock turns) f t) in
    record { params = r; core = c; some = omega (arith, many, some); few = omega (arith, many, few); queues = qs; deaths = died; clock = clocked }

-- Words that have the parts of a state's block spell that state.
pub spelled : (s : State) (words head cells processes : List ℕ) → IsValid s → take (length (head ++ cells ++ processes)) words ≡ head ++ cells ++ processes → head ≡ head_of s → core_words s.core ≡ cells → concat s.queues ≡ processes → Spells s words
unfolding block_of
spelled s words head cells processes v e h c q =
    let all : head ++ cells ++ processes ≡ block_of s = ap (λ (l : List ℕ). l ++ cells ++ processes) h ∙ ap (λ (l : List ℕ). head_of s ++ l ++ processes) (sym c) ∙ ap (λ (l : List ℕ). head_of s ++ core_words s.core ++ l) (sym q) in
    let front : take (length (block_of s)) words ≡ block_of s = ap (λ (l : List ℕ). take (length l) words) (sym all) ∙ e ∙ all in
    record { valid = v; block = sym (take-append-drop (length (block_of s)) words) ∙ ap (λ (l : List ℕ). l ++ drop (length (block_of s)) words) front }

joined : (s : State) (l : List ℕ) → head_of s ++ (core_words s.core ++ (concat s.queues ++ l)) ≡ block_of s ++ l
unfolding block_of
joined s l = sym (append_assoc (head_of s) (core_words s.core) (concat s.queues ++ l)) ∙ sym (append_assoc (head_of s ++ core_words s.core) (concat s.queues) l)

-- The parts of a state's block are written to the front of words.
pub written : (s : State) (words head others cells back rest : List ℕ) (n : ℕ) → IsValid s → head ≡ head_of s → cells ≡ core_words s.core → others ≡ drop 64 words → back ≡ drop n others → n ≡ 3 * length s.core
    → rest ≡ concat s.queues ++ drop (sum (lengths_of s.queues)) back → head ++ (cells ++ rest) ≡ block_of s ++ drop (length (block_of s)) words
written s words head others cells back rest n v h c o b e r =
    let m = sum (lengths_of s.queues) in
    let k : 64 + n + m ≡ length (block_of s) = omega (arith, e, length-block_of s v) in
    let left : drop m back ≡ drop (length (block_of s)) words = ap (drop m) (b ∙ ap (drop n) o ∙ drop-drop n 64 words) ∙ drop-drop m (64 + n) words ∙ ap (λ (i : ℕ). drop i words) k in
    ap (λ (l : List ℕ). l ++ (cells ++ rest)) h
    ∙ ap (λ (l : List ℕ). head_of s ++ (l ++ rest)) c
    ∙ ap (λ (l : List ℕ). head_of s ++ (core_words s.core ++ l)) (r ∙ ap (λ (l : List ℕ). concat s.queues ++ l) left)
    ∙ joined s (drop (length (block_of s)) words)
