-- What is wrong with words that do not begin with the block of a battle.
use Rattle.std.specs.Prelude.{◌≡◌, ◌≢◌, ◌<◌, ◌+◌, ◌*◌, ◌⊎◌, ℕ, ⊤, All, List, [], ◌∷◌, Err, length, sum, take, drop, slice_index_or}
use Rattle.std.specs.List.{concat}
use Rattle.mars_cell.specs.Cells.{FitsCore}
use Rattle.mars_cell.specs.ParameterFaults.{checked_parameters}
use Rattle.mars_cell.specs.Parameters.{Parameters}
use Rattle.mars_cell.specs.declared.instruction.Cell.{Cell}
use Rattle.mars_core.specs.Block.{block_mark, cell_words, core_words, death_words, head_of, head_words, lengths_of, params_in}
use Rattle.mars_core.specs.Limits.{max_warriors}
use Rattle.mars_core.specs.State.{State}
use Rattle.mars_core.specs.Validity.{AreDeaths, IsClock, IsQueue, IsValid}
use Rattle.mars_core.specs.declared.battle.block.BlockFault.{BlockFault}
use Rattle.mars_core.specs.declared.battle.block.BlockFault.TheVariants.{Short, Mark, Parameters as OfParameters, Warriors, Cell as OfCell, Queue, Deaths, Clock, Head, OutOfMemory}
use Rattle.mars_core.specs.declared.deaths.Death.{Death}

-- The header of the words.
abbrev pub head_in : List ℕ → List ℕ
head_in words = take head_words words

-- The word of the header at the index `place`, counted from 0, or 0 if the header has no such word.
abbrev pub word_in : List ℕ → ℕ → ℕ
word_in words place = slice_index_or (head_in words) place 0

-- The number of words of all cells, by the core size in the header.
abbrev pub cell_words_in : List ℕ → ℕ
cell_words_in words = 3 * (params_in (head_in words)).core_size

-- The number of processes of each warrior, as the header gives it.
abbrev pub counts_in : List ℕ → List ℕ
counts_in words = take (word_in words 9) (drop 16 (head_in words))

-- The words of the cells.
abbrev pub cells_in : List ℕ → List ℕ
cells_in words = take (cell_words_in words) (drop head_words words)

-- The words of the processes.
abbrev pub processes_in : List ℕ → List ℕ
processes_in words = take (sum (counts_in words)) (drop (cell_words_in words) (drop head_words words))

-- In `words`, the words of all cells, the three words at `address` are not those of a cell that fits a core of
-- `core_size` cells, and all words before them are those of cells that fit it.
pub record IsFirstWrongCell (core_size : ℕ) (words : List ℕ) (address : ℕ) : Type 0 where
  pub before : (cells : List Cell) × All (FitsCore core_size) cells × (core_words cells ≡ take (3 * address) words)
  pub wrong : (c : Cell) → FitsCore core_size c → cell_words c ≢ slice_index_or words (3 * address) 0
      ∷ slice_index_or words (3 * address + 1) 0 ∷ slice_index_or words (3 * address + 2) 0 ∷ []

-- `warrior` is the first warrior that has too many processes or a process outside the core. `counts` are the numbers of
-- processes of all warriors, and `words` the addresses of these processes.
pub record IsFirstWrongQueue (p : Parameters) (counts words : List ℕ) (warrior : ℕ) : Type 0 where
  pub before : (queues : List (List ℕ)) × All (IsQueue p.core_size p.processes) queues × (lengths_of queues ≡ take warrior counts)
      × (concat queues ≡ take (sum (take warrior counts)) words)
  pub wrong : IsQueue p.core_size p.processes (take (slice_index_or counts warrior 0) (drop (sum (take warrior counts)) words)) → ⊥

-- `queues` are the queues of all warriors in the words.
abbrev pub AreQueues : List ℕ → List (List ℕ) → Type 0
AreQueues words queues = (lengths_of queues ≡ counts_in words) × (concat queues ≡ processes_in words)

-- `words` have the given error. `OutOfMemory` says nothing about `words`.
abbrev pub IsWrong : List ℕ → BlockFault → Type 0
IsWrong words Short = (length words < head_words) ⊎ (length words < head_words + cell_words_in words + sum (counts_in words))
IsWrong words Mark = word_in words 0 ≢ block_mark
IsWrong words (OfParameters fault) = checked_parameters (params_in (head_in words)) ≡ Err fault
IsWrong words Warriors = (word_in words 9 < 1) ⊎ (max_warriors < word_in words 9)
IsWrong words (OfCell address) = IsFirstWrongCell (params_in (head_in words)).core_size (cells_in words) address
IsWrong words (Queue warrior) = IsFirstWrongQueue (params_in (head_in words)) (counts_in words) (processes_in words) warrior
IsWrong words Deaths = (max_warriors < word_in words 14)
    ⊎ ((queues : List (List ℕ)) × (deaths : List Death) × AreQueues words queues
    × (death_words deaths ≡ take (2 * word_in words 14) (drop 32 (head_in words))) × (AreDeaths queues deaths → ⊥))
IsWrong words Clock = (queues : List (List ℕ)) × AreQueues words queues
    × (IsClock (params_in (head_in words)).cycles queues (record { next = word_in words 12; cycle = word_in words 11 }) (word_in words 10) → ⊥)
IsWrong words Head = (s : State) × IsValid s × (core_words s.core ≡ cells_in words) × AreQueues words s.queues × (head_in words ≢ head_of s)
IsWrong words OutOfMemory = ⊤
