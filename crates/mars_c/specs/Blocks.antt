-- Battles as blocks of 32-bit words that the caller owns: their capacity, what calls write to them, the edits that numbers
-- mean, and why calls are rejected. The definitions allow `OutOfMemory` as a refusal of every call, because an allocation may
-- fail. Parameters: `settings`, `cells` and `entrants` are the caller's settings and warriors, `numbers` the caller's edits, and
-- `words` the block; `before` and `after` are the words before and after a call.
use Rattle.std.specs.Prelude.{◌≡◌, ◌≢◌, ◌≤◌, ◌<◌, ◌⊎◌, ◌+◌, ◌*◌, ℕ, ⊤, List, ◌++◌, length, drop, take, None, Some, slice_get}
use Rattle.std.specs.List.{AllZip, FoldsTo}
use Rattle.mars_core.specs.State.{State}
use Rattle.mars_core.specs.Block.{Spells, block_of, head_words}
use Rattle.mars_core.specs.BlockFaults.{IsWrong}
use Rattle.mars_core.specs.Edit.{edited, edit_fault}
use Rattle.mars_core.specs.declared.battle.block.BlockFault.TheVariants as block
use Rattle.mars_core.specs.declared.battle.edit.Edit.{Edit}
use Rattle.mars_core.specs.declared.battle.edit.EditFault.{EditFault}
use Rattle.mars_core.specs.declared.battle.edit.Edit.TheVariants as edit
use Rattle.mars_c.specs.Battles.{IsStart}
use Rattle.mars_c.specs.Cells.{plain_cell}
use Rattle.mars_c.specs.Codes.{block_fault_of}
use Rattle.mars_c.specs.Records.{recorded}
use Rattle.mars_c.specs.Refusals.{AreWarriors, IsOutOfRange, RefusesRound}
use Rattle.mars_c.specs.declared.faults.BlockRefusal.{BlockRefusal}
use Rattle.mars_c.specs.declared.faults.BlockRefusal.TheVariants.{OutOfMemory, Block, Capacity, NoSuchEdit, Edit as OfEdit, History, Condition, Pasts, Process}
use Rattle.mars_c.specs.declared.faults.CallRefusal.{CallRefusal}
use Rattle.mars_c.specs.declared.faults.MarsFault.{MarsFault}
use Rattle.mars_c.specs.declared.cells.MarsCell.{MarsCell}
use Rattle.mars_c.specs.declared.warriors.MarsWarrior.{MarsWarrior}
use Rattle.mars_c.specs.declared.edits.MarsEdit.{MarsEdit}
use Rattle.mars_c.specs.declared.ranges.SettingsFault.TheVariants.{Warriors}
use Rattle.mars_c.specs.declared.settings.MarsSettings.{MarsSettings}

-- The capacity in words that the battle `s` needs. Turns and edits never make its block longer than this.
abbrev pub capacity_of : State → ℕ
capacity_of s = head_words + 3 * s.params.core_size + length s.queues * s.params.processes

-- `words` begins with the block of the battle `s`, and has at least the capacity that `s` needs.
pub record IsPlayable (s : State) (words : List ℕ) : Type 0 where
  pub spells : Spells s words
  pub capacity : capacity_of s ≤ length words

-- The words `after` begin with the block of `s`; from the end of this block on they equal the words `before`.
abbrev pub IsWritten : State → List ℕ → List ℕ → Type 0
IsWritten s before after = after ≡ block_of s ++ drop (length (block_of s)) before

-- The rows after at most `turns` turns from the state `s`: each turn fills one row as long as there are turns and rows. The
-- other rows are unchanged.
abbrev pub played_rows : {Row : Type 0} → (State → Row) → ℕ → State → List Row → List Row
played_rows row_of turns s rows = recorded row_of s (take turns rows) ++ drop turns rows

-- The numbers of a MarsEdit mean the edit. Only the fields that the edit needs count.
abbrev pub Means : MarsEdit → Edit → Type 0
Means numbers (edit.SetCell address cell) = (numbers.what ≡ 1) × (address ≡ numbers.address) × (plain_cell cell ≡ numbers.cell)
Means numbers (edit.MoveProcess warrior place address) =
    (numbers.what ≡ 2) × (warrior ≡ numbers.warrior) × (place ≡ numbers.place) × (address ≡ numbers.address)
Means numbers (edit.KillProcess warrior place) = (numbers.what ≡ 3) × (warrior ≡ numbers.warrior) × (place ≡ numbers.place)
Means numbers (edit.Spawn warrior address) = (numbers.what ≡ 4) × (warrior ≡ numbers.warrior) × (address ≡ numbers.address)

-- The words `after` hold the battle with which round `round` starts; the words `before` have enough capacity.
abbrev pub HoldsStart : MarsSettings → List MarsCell → List MarsWarrior → ℕ → List ℕ → List ℕ → Type 0
HoldsStart settings cells entrants round before after = (s : State) × IsStart settings cells entrants round s
    × (capacity_of s ≤ length before) × IsWritten s before after

-- The battle with which round `round` starts needs more capacity than `words` has.
abbrev pub OverflowsStart : MarsSettings → List MarsCell → List MarsWarrior → ℕ → List ℕ → Type 0
OverflowsStart settings cells entrants round words = (s : State) × IsStart settings cells entrants round s × (length words < capacity_of s)

-- The words `after` hold the battle of the words `before` after the edit that the numbers mean.
abbrev pub HoldsEdited : MarsEdit → List ℕ → List ℕ → Type 0
HoldsEdited numbers before after = (s : State) × (e : Edit) × IsPlayable s before × Means numbers e
    × (edit_fault s e ≡ None) × IsWritten (edited s e) before after

-- The edit `e` is possible in the battle `s`, and leads to the battle `t`.
abbrev pub Makes : State → Edit → State → Type 0
Makes s e t = (edit_fault s e ≡ None) × (t ≡ edited s e)

-- The words `after` hold the battle of the words `before` after the edits that the numbers mean, one after another.
abbrev pub HoldsEdits : List MarsEdit → List ℕ → List ℕ → Type 0
HoldsEdits numbers before after = (s : State) × (edits : List Edit) × (t : State) × IsPlayable s before × AllZip Means numbers edits
    × FoldsTo Makes s edits t × IsWritten t before after

-- `refusal` is a reason for which the battle of round `round` of a match of the warriors is not started.
abbrev pub RefusesStart : MarsSettings → List MarsCell → List MarsWarrior → ℕ → CallRefusal → Type 0
RefusesStart settings cells entrants round refusal =
    IsOutOfRange Warriors (AreWarriors (length entrants)) refusal ⊎ RefusesRound settings cells entrants round refusal

-- `refusal` is a reason for which the words do not begin with the block of a battle, and says what is wrong with them.
abbrev pub RefusesWords : List ℕ → BlockRefusal → Type 0
RefusesWords words OutOfMemory = ⊤
RefusesWords words (Block fault) = (fault ≢ block.OutOfMemory) × IsWrong words fault × ((s : State) → Spells s words → ⊥)
RefusesWords words Capacity = ⊥
RefusesWords words (NoSuchEdit index) = ⊥
RefusesWords words (OfEdit index fault) = ⊥
RefusesWords words History = ⊥
RefusesWords words (Condition index) = ⊥
RefusesWords words Pasts = ⊥
RefusesWords words Process = ⊥

-- `refusal` is a reason for which no turn is executed in the words: they do not begin with a block, or have less capacity than
-- its battle needs.
abbrev pub RefusesPlay : List ℕ → BlockRefusal → Type 0
RefusesPlay words OutOfMemory = ⊤
RefusesPlay words (Block fault) = RefusesWords words (Block fault)
RefusesPlay words Capacity = (s : State) × Spells s words × (length words < capacity_of s)
RefusesPlay words (NoSuchEdit index) = ⊥
RefusesPlay words (OfEdit index fault) = ⊥
RefusesPlay words History = ⊥
RefusesPlay words (Condition index) = ⊥
RefusesPlay words Pasts = ⊥
RefusesPlay words Process = ⊥

-- `refusal` is a reason for which an edit of the words is rejected: the numbers mean no edit, the words cannot be played, or
-- the edit itself has an error.
abbrev pub RefusesEdit : List ℕ → MarsEdit → BlockRefusal → Type 0
RefusesEdit words numbers OutOfMemory = ⊤
RefusesEdit words numbers (Block fault) = RefusesWords words (Block fault)
RefusesEdit words numbers Capacity = RefusesPlay words Capacity
RefusesEdit words numbers (NoSuchEdit index) = ((e : Edit) → Means numbers e → ⊥) × (index ≡ 0)
RefusesEdit words numbers (OfEdit index fault) = (s : State) × (e : Edit) × IsPlayable s words × Means numbers e
    × (edit_fault s e ≡ Some fault) × (index ≡ 0)
RefusesEdit words numbers History = ⊥
RefusesEdit words numbers (Condition index) = ⊥
RefusesEdit words numbers Pasts = ⊥
RefusesEdit words numbers Process = ⊥

-- Each item of `numbers` means an edit.
abbrev pub AreEdits : List MarsEdit → Type 0
AreEdits numbers = (edits : List Edit) × AllZip Means numbers edits

-- `refusal` is a reason for which the numbers are no edits: the numbers at `index` are the first that mean none.
abbrev pub IsNoEdit : List MarsEdit → BlockRefusal → Type 0
IsNoEdit numbers OutOfMemory = ⊤
IsNoEdit numbers (NoSuchEdit index) = AreEdits (take index numbers)
    × ((one : MarsEdit) × (slice_get numbers index ≡ Some one) × ((e : Edit) → Means one e → ⊥))
IsNoEdit numbers (Block fault) = ⊥
IsNoEdit numbers Capacity = ⊥
IsNoEdit numbers (OfEdit index fault) = ⊥
IsNoEdit numbers History = ⊥
IsNoEdit numbers (Condition index) = ⊥
IsNoEdit numbers Pasts = ⊥
IsNoEdit numbers Process = ⊥

-- The edit at `index` has the error `fault`, after the edits before it were made in the battle `s`.
abbrev pub Fails : State → List Edit → ℕ → EditFault → Type 0
Fails s edits index fault = (t : State) × (e : Edit) × FoldsTo Makes s (take index edits) t × (slice_get edits index ≡ Some e)
    × (edit_fault t e ≡ Some fault)

-- `refusal` is the first reason for which several edits of the words are rejected: numbers that mean no edit, words that cannot be
-- played, or an edit that has an error after the edits before it.
abbrev pub RefusesEdits : List ℕ → List MarsEdit → BlockRefusal → Type 0
RefusesEdits words numbers OutOfMemory = ⊤
RefusesEdits words numbers (NoSuchEdit index) = IsNoEdit numbers (NoSuchEdit index)
RefusesEdits words numbers (Block fault) = AreEdits numbers × RefusesPlay words (Block fault)
RefusesEdits words numbers Capacity = AreEdits numbers × RefusesPlay words Capacity
RefusesEdits words numbers (OfEdit index fault) = (s : State) × (edits : List Edit) × IsPlayable s words × AllZip Means numbers edits
    × Fails s edits index fault
RefusesEdits words numbers History = ⊥
RefusesEdits words numbers (Condition index) = ⊥
RefusesEdits words numbers Pasts = ⊥
RefusesEdits words numbers Process = ⊥

-- `fault` is the error of a refusal for which `Refuses` holds.
abbrev pub Reports : (BlockRefusal → Type 0) → MarsFault → Type 0
Reports Refuses fault = (refusal : BlockRefusal) × (fault ≡ block_fault_of refusal) × Refuses refusal
