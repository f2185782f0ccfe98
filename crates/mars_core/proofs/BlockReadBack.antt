-- Different states have different blocks: each part of a state can be read back from its words.
use Rattle.std.proofs.Common.{◌≡◌, ℕ, ◌+◌, ◌*◌, ◌<◌, List, [], ◌∷◌, ◌++◌, length, take, drop, get_or, refl, ap, sym, ◌∙◌, arith, drop_at, take_at}
use Rattle.std.specs.List.{concat}
use Rattle.std.specs.Prelude.{sum}
use Rattle.mars_cell.specs.declared.instruction.Cell.{Cell}
use Rattle.mars_cell.specs.declared.instruction.Op.{Op}
use Rattle.mars_cell.specs.declared.instruction.Op.TheVariants.{Dat, Mov, Add, Sub, Mul, Div, Mod, Jmp, Jmz, Jmn, Djn, Seq, Sne, Slt, Spl, Nop}
use Rattle.mars_cell.specs.declared.instruction.Modifier.{Modifier}
use Rattle.mars_cell.specs.declared.instruction.Modifier.TheVariants.{A, B, Ab, Ba, F, X, I}
use Rattle.mars_cell.specs.declared.instruction.Mode.{Mode}
use Rattle.mars_cell.specs.declared.instruction.Mode.TheVariants.{Immediate, Direct, AIndirect, BIndirect, APredecrement, BPredecrement, APostincrement, BPostincrement}
use Rattle.mars_cell.specs.Cells.{op_index, modifier_index, mode_index}
use Rattle.mars_cell.specs.Parameters.{Parameters}
use Rattle.mars_core.specs.declared.deaths.Death.{Death}
use Rattle.mars_core.specs.State.{State}
use Rattle.mars_core.specs.Validity.{IsValid}
use Rattle.mars_core.specs.Block.{tags_word, core_words, death_words, lengths_of, head_of, field_words, block_of, params_in, AreBlockParts, Spells}
use Rattle.mars_core.proofs.BlockParts.{head_counts, head_deaths, head_params, head_warriors, head_deaths_count, spelled_head, spelled_cells, spelled_processes}

ops : List Op
ops = Dat ∷ Mov ∷ Add ∷ Sub ∷ Mul ∷ Div ∷ Mod ∷ Jmp ∷ Jmz ∷ Jmn ∷ Djn ∷ Seq ∷ Sne ∷ Slt ∷ Spl ∷ Nop ∷ []

op_back : (o : Op) → get_or ops (op_index o) Dat ≡ o
unfolding ops
op_back Dat = refl
op_back Mov = refl
op_back Add = refl
op_back Sub = refl
op_back Mul = refl
op_back Div = refl
op_back Mod = refl
op_back Jmp = refl
op_back Jmz = refl
op_back Jmn = refl
op_back Djn = refl
op_back Seq = refl
op_back Sne = refl
op_back Slt = refl
op_back Spl = refl
op_back Nop = refl

modifiers : List Modifier
modifiers = A ∷ B ∷ Ab ∷ Ba ∷ F ∷ X ∷ I ∷ []

modifier_back : (m : Modifier) → get_or modifiers (modifier_index m) A ≡ m
unfolding modifiers
modifier_back A = refl
modifier_back B = refl
modifier_back Ab = refl
modifier_back Ba = refl
modifier_back F = refl
modifier_back X = refl
modifier_back I = refl

modes : List Mode
modes = Immediate ∷ Direct ∷ AIndirect ∷ BIndirect ∷ APredecrement ∷ BPredecrement ∷ APostincrement ∷ BPostincrement ∷ []

mode_back : (m : Mode) → get_or modes (mode_index m) Immediate ≡ m
unfolding modes
mode_back Immediate = refl
mode_back Direct = refl
mode_back AIndirect = refl
mode_back BIndirect = refl
mode_back APredecrement = refl
mode_back BPredecrement = refl
mode_back APostincrement = refl
mode_back BPostincrement = refl

op_few : (o : Op) → op_index o < 256
op_few Dat = omega arith
op_few Mov = omega arith
op_few Add = omega arith
op_few Sub = omega arith
op_few Mul = omega arith
op_few Div = omega arith
op_few Mod = omega arith
op_few Jmp = omega arith
op_few Jmz = omega arith
op_few Jmn = omega arith
op_few Djn = omega arith
op_few Seq = omega arith
op_few Sne = omega arith
op_few Slt = omega arith
op_few Spl = omega arith
op_few Nop = omega arith

modifier_few : (m : Modifier) → modifier_index m < 256
modifier_few A = omega arith
modifier_few B = omega arith
modifier_few Ab = omega arith
modifier_few Ba = omega arith
modifier_few F = omega arith
modifier_few X = omega arith
modifier_few I = omega arith

mode_few : (m : Mode) → mode_index m < 256
mode_few Immediate = omega arith
mode_few Direct = omega arith
mode_few AIndirect = omega arith
mode_few BIndirect = omega arith
mode_few APredecrement = omega arith
mode_few BPredecrement = omega arith
mode_few APostincrement = omega arith
mode_few BPostincrement = omega arith

four_same : (a b c d a' b' c' d' : ℕ) → a < 256 → b < 256 → c < 256 → a' < 256 → b' < 256 → c' < 256
    → a + 256 * b + 65536 * c + 16777216 * d ≡ a' + 256 * b' + 65536 * c' + 16777216 * d' → (a ≡ a') × ((b ≡ b') × ((c ≡ c') × (d ≡ d')))
four_same a b c d a' b' c' d' h1 h2 h3 h4 h5 h6 e =
    let first : b + 256 * c + 65536 * d ≡ b' + 256 * c' + 65536 * d' = omega arith in
    let second : c + 256 * d ≡ c' + 256 * d' = omega arith in
    let third : d ≡ d' = omega arith in
    (omega arith, (omega arith, (omega arith, third)))

cell_same : (c d : Cell) → tags_word c ≡ tags_word d → c.a ≡ d.a → c.b ≡ d.b → c ≡ d
cell_same c d t a b =
    let f = four_same _ _ _ _ _ _ _ _ (op_few c.op) (modifier_few c.modifier) (mode_few c.a_mode) (op_few d.op) (modifier_few d.modifier) (mode_few d.a_mode) t in
    let o : c.op ≡ d.op = sym (op_back c.op) ∙ ap (λ (k : ℕ). get_or ops k Dat) f.0 ∙ op_back d.op in
    let m : c.modifier ≡ d.modifier = sym (modifier_back c.modifier) ∙ ap (λ (k : ℕ). get_or modifiers k A) f.1.0 ∙ modifier_back d.modifier in
    let x : c.a_mode ≡ d.a_mode = sym (mode_back c.a_mode) ∙ ap (λ (k : ℕ). get_or modes k Immediate) f.1.1.0 ∙ mode_back d.a_mode in
    let y : c.b_mode ≡ d.b_mode = sym (mode_back c.b_mode) ∙ ap (λ (k : ℕ). get_or modes k Immediate) f.1.1.1 ∙ mode_back d.b_mode in
    λ i. record { op = o i; modifier = m i; a_mode = x i; b_mode = y i; a = a i; b = b i }

first_of : List ℕ → ℕ
first_of [] = 0
first_of (x ∷ xs) = x

rest_of : List ℕ → List ℕ
rest_of [] = []
rest_of (x ∷ xs) = xs

pub core_same : (xs ys : List Cell) → core_words xs ≡ core_words ys → xs ≡ ys
unfolding first_of rest_of
core_same [] [] e = refl
core_same [] (d ∷ ys) e = absurd (cc)
core_same (c ∷ xs) [] e = absurd (cc)
core_same (c ∷ xs) (d ∷ ys) e =
    let t : tags_word c ≡ tags_word d = ap first_of e in
    let a : c.a ≡ d.a = ap (λ (l : List ℕ). first_of (rest_of l)) e in
    let b : c.b ≡ d.b = ap (λ (l : List ℕ). first_of (rest_of (rest_of l))) e in
    let r : core_words xs ≡ core_words ys = ap (λ (l : List ℕ). rest_of (rest_of (rest_of l))) e in
    ap (λ (z : Cell). z ∷ xs) (cell_same c d t a b) ∙ ap (λ (l : List Cell). d ∷ l) (core_same xs ys r)

pub deaths_same : (xs ys : List Death) → death_words xs ≡ death_words ys → xs ≡ ys
unfolding first_of rest_of
deaths_same [] [] e = refl
deaths_same [] (d ∷ ys) e = absurd (cc)
deaths_same (c ∷ xs) [] e = absurd (cc)
deaths_same (c ∷ xs) (d ∷ ys) e =
    let a : c.warrior ≡ d.warrior = ap first_of e in
    let b : c.turns ≡ d.turns = ap (λ (l : List ℕ). first_of (rest_of l)) e in
    let r : death_words xs ≡ death_words ys = ap (λ (l : List ℕ). rest_of (rest_of l)) e in
    let same : c ≡ d = λ i. record { warrior = a i; turns = b i } in
    ap (λ (z : Death). z ∷ xs) same ∙ ap (λ (l : List Death). d ∷ l) (deaths_same xs ys r)

pub queues_same : (xs ys : List (List ℕ)) → lengths_of xs ≡ lengths_of ys → concat xs ≡ concat ys → xs ≡ ys
unfolding first_of rest_of
queues_same [] [] e f = refl
queues_same [] (q ∷ ys) e f = absurd (cc)
queues_same (p ∷ xs) [] e f = absurd (cc)
queues_same (p ∷ xs) (q ∷ ys) e f =
    let n : length p ≡ length q = ap first_of e in
    let same : p ≡ q = sym (take_at p (concat xs) (length p) refl) ∙ ap (take (length p)) f ∙ take_at q (concat ys) (length p) (sym n) in
    let rest : concat xs ≡ concat ys = sym (drop_at p (concat xs) (length p) refl) ∙ ap (drop (length p)) f ∙ drop_at q (concat ys) (length p) (sym n) in
    ap (λ (z : List ℕ). z ∷ xs) same ∙ ap (λ (l : List (List ℕ)). q ∷ l) (queues_same xs ys (ap rest_of e) rest)

-- The state that is read from the parts of a state's block is that state.
pub state_read : (s : State) (params : Parameters) (core : List Cell) (queues : List (List ℕ)) (deaths : List Death) (head counts cells processes : List ℕ) → IsValid s → AreBlockParts s head counts cells processes
    → params ≡ params_in head → core_words core ≡ cells → lengths_of queues ≡ counts → concat queues ≡ processes → death_words deaths ≡ take (2 * get_or head 14 0) (drop 32 head)
    → record { params = params; core = core; queues = queues; next = get_or head 12 0; cycle = get_or head 11 0; turns = get_or head 10 0; deaths = deaths } ≡ s
unfolding head_of field_words
state_read s params core queues deaths head counts cells processes v parts p c l q d =
    let ps : params ≡ s.params = p ∙ ap params_in parts.head ∙ head_params s in
    let cs : core ≡ s.core = core_same core s.core (c ∙ parts.cells) in
    let qs : queues ≡ s.queues = queues_same queues s.queues (l ∙ parts.counts) (q ∙ parts.processes) in
    let n : get_or head 14 0 ≡ length s.deaths = ap (λ (h : List ℕ). get_or h 14 0) parts.head in
    let ds : deaths ≡ s.deaths = deaths_same deaths s.deaths (d ∙ ap (λ (h : List ℕ). take (2 * get_or head 14 0) (drop 32 h)) parts.head ∙ head_deaths s (get_or head 14 0) v n) in
    let next : get_or head 12 0 ≡ s.next = ap (λ (h : List ℕ). get_or h 12 0) parts.head in
    let cycle : get_or head 11 0 ≡ s.cycle = ap (λ (h : List ℕ). get_or h 11 0) parts.head in
    let turns : get_or head 10 0 ≡ s.turns = ap (λ (h : List ℕ). get_or h 10 0) parts.head in
    λ i. record { params = ps i; core = cs i; queues = qs i; next = next i; cycle = cycle i; turns = turns i; deaths = ds i }

-- The block of a valid state spells that state.
pub blocks_spelled : (s : State) (rest : List ℕ) → IsValid s → Spells s (block_of s ++ rest)
blocks_spelled s rest v = record { valid = v; block = ap (λ (l : List ℕ). block_of s ++ l) (sym (drop_at (block_of s) rest (length (block_of s)) refl)) }

-- Words spell at most one state.
pub one_spelled : (s t : State) (words : List ℕ) → Spells s words → Spells t words → s ≡ t
unfolding head_of field_words
one_spelled s t words p q =
    let head = take 64 words in
    let hs : head ≡ head_of s = spelled_head s words p in
    let ht : head ≡ head_of t = spelled_head t words q in
    let params : t.params ≡ params_in head = sym (ap params_in ht ∙ head_params t) in
    let size : s.params.core_size ≡ t.params.core_size = ap (λ (x : Parameters). x.core_size) (sym (ap params_in hs ∙ head_params s) ∙ sym params) in
    let cells : 3 * length t.core ≡ 3 * length s.core = omega (arith, size, p.valid.core.size, q.valid.core.size) in
    let ws : get_or head 9 0 ≡ length s.queues = ap (λ (l : List ℕ). get_or l 9 0) hs ∙ head_warriors s in
    let wt : get_or head 9 0 ≡ length t.queues = ap (λ (l : List ℕ). get_or l 9 0) ht ∙ head_warriors t in
    let counts : lengths_of t.queues ≡ lengths_of s.queues =
    sym (head_counts t (get_or head 9 0) q.valid wt) ∙ ap (λ (l : List ℕ). take (get_or head 9 0) (drop 16 l)) (sym ht ∙ hs) ∙ head_counts s (get_or head 9 0) p.valid ws in
    let n = 3 * length t.core in
    let m = sum (lengths_of t.queues) in
    let parts : AreBlockParts s head (lengths_of t.queues) (core_words t.core) (concat t.queues) = record {
      head = hs;
      counts = counts;
      cells = sym (spelled_cells t words n q refl) ∙ spelled_cells s words n p cells;
      processes = sym (spelled_processes t words n m q refl refl) ∙ spelled_processes s words n m p cells (ap sum counts);
    } in
    let deaths : death_words t.deaths ≡ take (2 * get_or head 14 0) (drop 32 head) =
    sym (head_deaths t (get_or head 14 0) q.valid (ap (λ (l : List ℕ). get_or l 14 0) ht ∙ head_deaths_count t)) ∙ ap (λ (l : List ℕ). take (2 * get_or head 14 0) (drop 32 l)) (sym ht) in
    let next : get_or head 12 0 ≡ t.next = ap (λ (l : List ℕ). get_or l 12 0) ht in
    let cycle : get_or head 11 0 ≡ t.cycle = ap (λ (l : List ℕ). get_or l 11 0) ht in
    let turns : get_or head 10 0 ≡ t.turns = ap (λ (l : List ℕ). get_or l 10 0) ht in
    let same : record { params = t.params; core = t.core; queues = t.queues; next = get_or head 12 0; cycle = get_or head 11 0; turns = get_or head 10 0; deaths = t.deaths } ≡ t =
    λ i. record { params = t.params; core = t.core; queues = t.queues; next = next i; cycle = cycle i; turns = turns i; deaths = t.deaths } in
    sym (state_read s t.params t.core t.queues t.deaths head _ _ _ p.valid parts params refl refl refl deaths) ∙ same
