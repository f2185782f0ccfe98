-- A battle as a block of 32-bit words: a header of 64 words, three words for each cell, and one word for each process.
use Rattle.std.specs.Prelude.{◌≡◌, ℕ, ◌+◌, ◌*◌, ◌-◌, if◌then◌else◌, List, [], ◌∷◌, ◌++◌, length, map, sum, drop, replicate, slice_index_or}
use Rattle.std.specs.List.{concat}
use Rattle.mars_cell.specs.declared.instruction.Cell.{Cell}
use Rattle.mars_cell.specs.Cells.{op_index, modifier_index, mode_index}
use Rattle.mars_cell.specs.Parameters.{Parameters}
use Rattle.mars_core.specs.State.{State, is_over_of}
use Rattle.mars_core.specs.Validity.{IsValid}
use Rattle.mars_core.specs.declared.deaths.Death.{Death}

-- The first word of a block: the bytes M, A, R and the version of the layout, 1; M is the lowest byte.
abbrev pub block_mark : ℕ
block_mark = 22167885

-- The length of the header in words.
abbrev pub head_words : ℕ
head_words = 64

-- The opcode, the modifier and the two modes of the cell `c` in one word, one byte each; the opcode is the lowest byte.
abbrev pub tags_word : Cell → ℕ
tags_word c = op_index c.op + 256 * modifier_index c.modifier + 65536 * mode_index c.a_mode + 16777216 * mode_index c.b_mode

-- The three words of the cell `c`: its tags, its A-number and its B-number.
abbrev pub cell_words : Cell → List ℕ
cell_words c = tags_word c ∷ c.a ∷ c.b ∷ []

-- The words of a list of cells, in the order of their addresses.
abbrev pub core_words : List Cell → List ℕ
core_words [] = []
core_words (c ∷ cells) = tags_word c ∷ c.a ∷ c.b ∷ core_words cells

-- The two words of each death: the warrior, and the number of turns that all warriors had executed by then, including
-- the fatal turn if the warrior died in a turn.
abbrev pub death_words : List Death → List ℕ
death_words [] = []
death_words (d ∷ deaths) = d.warrior ∷ d.turns ∷ death_words deaths

-- The list `xs`, followed by zeros up to the length `places`.
abbrev pub padded : ℕ → List ℕ → List ℕ
padded places xs = xs ++ replicate (places - length xs) 0

-- The number of processes of each warrior.
abbrev pub lengths_of : List (List ℕ) → List ℕ
lengths_of queues = map (λ (q : List ℕ). length q) queues

-- The length of the block of the state `s` in words: the header, three for each cell, one for each process.
abbrev pub words_of : State → ℕ
words_of s = head_words + 3 * length s.core + sum (lengths_of s.queues)

-- The first sixteen words of the header: the mark, the block's length, the parameters, the number of warriors, the
-- turns, the completed cycles, the next warrior, 1 if the battle is over, else 0, the number of deaths, and 0.
unfoldable pub field_words : State → List ℕ
field_words s =
    block_mark ∷ words_of s
    ∷ s.params.core_size ∷ s.params.processes ∷ s.params.cycles ∷ s.params.read_limit ∷ s.params.write_limit
    ∷ s.params.max_length ∷ s.params.distance
    ∷ length s.queues ∷ s.turns ∷ s.cycle ∷ s.next ∷ (if is_over_of s then 1 else 0) ∷ length s.deaths ∷ 0 ∷ []

-- The header: the words of `field_words`, the number of processes of each warrior (16 words), and the deaths (32).
unfoldable pub head_of : State → List ℕ
head_of s = field_words s ++ padded 16 (lengths_of s.queues) ++ padded 32 (death_words s.deaths)

-- The parameters in the words of the header `head`.
abbrev pub params_in : List ℕ → Parameters
params_in head = record {
  core_size = slice_index_or head 2 0;
  processes = slice_index_or head 3 0;
  cycles = slice_index_or head 4 0;
  read_limit = slice_index_or head 5 0;
  write_limit = slice_index_or head 6 0;
  max_length = slice_index_or head 7 0;
  distance = slice_index_or head 8 0;
}

-- The block of the state `s`: the header, the cells, and the addresses of all processes, queue by queue, from the
-- front.
unfoldable pub block_of : State → List ℕ
block_of s = head_of s ++ core_words s.core ++ concat s.queues

-- The words begin with the block of `s`, and `s` is a valid state.
pub record Spells (s : State) (words : List ℕ) : Type 0 where
  pub valid : IsValid s
  pub block : words ≡ block_of s ++ drop (length (block_of s)) words

-- `head'`, `counts'`, `cells'` and `processes'` are the header, the process counts, the words of the cells and the
-- addresses of the processes in the block of `s`.
pub record AreBlockParts (s : State) (head' counts' cells' processes' : List ℕ) : Type 0 where
  pub head : head' ≡ head_of s
  pub counts : counts' ≡ lengths_of s.queues
  pub cells : cells' ≡ core_words s.core
  pub processes : processes' ≡ concat s.queues
