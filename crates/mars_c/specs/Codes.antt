-- The error that the caller gets for each refusal: its code, and its numbers as the program prints them.
use Rattle.std.specs.Prelude.{ℕ, Option, Some, None}
use Rattle.mars_cell.specs.declared.fault.LoadFault.{LoadFault}
use Rattle.mars_cell.specs.declared.fault.LoadFault.TheVariants as load
use Rattle.mars_cell.specs.declared.parameters.ParamFault.{ParamFault}
use Rattle.mars_cell.specs.declared.parameters.ParamFault.TheVariants as parameter
use Rattle.mars_core.specs.declared.battle.block.BlockFault.{BlockFault}
use Rattle.mars_core.specs.declared.battle.block.BlockFault.TheVariants as block
use Rattle.mars_core.specs.declared.battle.edit.EditFault.{EditFault}
use Rattle.mars_core.specs.declared.battle.edit.EditFault.TheVariants as edit
use Rattle.mars_core.specs.declared.battle.start.BattleFault.{BattleFault}
use Rattle.mars_core.specs.declared.battle.start.BattleFault.TheVariants as battle
use Rattle.mars_match.specs.declared.placement.PlaceFault.{PlaceFault}
use Rattle.mars_match.specs.declared.placement.PlaceFault.TheVariants as place
use Rattle.redcode_asm.specs.declared.fault.AsmProblem.{AsmProblem}
use Rattle.redcode_asm.specs.declared.fault.AsmProblem.TheVariants as assembly
use Rattle.redcode_text.specs.declared.fault.ExprFault.{ExprFault}
use Rattle.redcode_text.specs.declared.fault.ExprFault.TheVariants as expression
use Rattle.redcode_text.specs.declared.token.Span.{Span}
use Rattle.redcode_text.specs.declared.fault.TextProblem.{TextProblem}
use Rattle.redcode_text.specs.declared.fault.TextProblem.TheVariants as text
use Rattle.mars_c.specs.declared.faults.MarsFault.{MarsFault}
use Rattle.mars_c.specs.declared.faults.BlockRefusal.{BlockRefusal}
use Rattle.mars_c.specs.declared.faults.BlockRefusal.TheVariants as refused
use Rattle.mars_c.specs.declared.faults.CallRefusal.{CallRefusal}
use Rattle.mars_c.specs.declared.faults.CallRefusal.TheVariants.{OutOfMemory, Settings, Parameters, Formula, Assembly, Load, Placement, Battle, Score, Warrior, Lineup}
use Rattle.mars_c.specs.declared.ranges.LineupFault.{LineupFault}
use Rattle.mars_c.specs.declared.ranges.LineupFault.TheVariants as lineup
use Rattle.mars_c.specs.declared.ranges.SettingsFault.{SettingsFault}
use Rattle.mars_c.specs.declared.warriors.EntrantFault.{EntrantFault}
use Rattle.mars_c.specs.declared.warriors.EntrantFault.TheVariants as entrant
use Rattle.mars_c.specs.declared.ranges.SettingsFault.TheVariants as settings

-- The number of an error of the settings or of another argument.
abbrev pub settings_number : SettingsFault → ℕ
settings_number settings.Rounds = 1
settings_number settings.Seed = 2
settings_number settings.Position = 3
settings_number settings.Warriors = 4
settings_number settings.Lengths = 5
settings_number settings.History = 6
settings_number settings.Rows = 7
settings_number settings.Round = 8

-- The number of a parameter that is out of its range.
abbrev pub parameter_number : ParamFault → ℕ
parameter_number parameter.CoreSize = 1
parameter_number parameter.Processes = 2
parameter_number parameter.Cycles = 3
parameter_number parameter.Limit = 4
parameter_number parameter.Length = 5
parameter_number parameter.Distance = 6

-- The number of an error of an expression.
abbrev pub expression_number : ExprFault → ℕ
expression_number expression.Syntax = 1
expression_number expression.Unknown = 2
expression_number expression.DivideByZero = 3
expression_number expression.Range = 4
expression_number expression.Depth = 5

-- The number of an error in a load file.
abbrev pub load_number : LoadFault → ℕ
load_number (load.Syntax line) = 1
load_number load.TooLong = 2
load_number load.Empty = 3
load_number load.BadOrigin = 4
load_number load.OutOfMemory = 5
load_number load.Version = 6

-- The line of an error in a load file; 0 if the error has no line.
abbrev pub load_line : LoadFault → ℕ
load_line (load.Syntax line) = line
load_line fault = 0

-- The number of an error of a warrior.
abbrev pub entrant_number : EntrantFault → ℕ
entrant_number entrant.Length = 1
entrant_number entrant.Start = 2
entrant_number (entrant.Cell index) = 3
entrant_number (entrant.Field index) = 4
entrant_number entrant.Name = 5
entrant_number entrant.OutOfMemory = 6

-- The number of an error of a lineup.
abbrev pub lineup_number : LineupFault → ℕ
lineup_number lineup.Count = 1
lineup_number lineup.Index = 2

-- The index of the first wrong cell of a warrior; 0 for other errors.
abbrev pub entrant_line : EntrantFault → ℕ
entrant_line (entrant.Cell index) = index
entrant_line (entrant.Field index) = index
entrant_line fault = 0

-- The number of an error of the placement.
abbrev pub placement_number : PlaceFault → ℕ
placement_number place.NoRoom = 1
placement_number place.BadSeed = 2
placement_number place.OutOfMemory = 3

-- The number of an error of the start of a battle.
abbrev pub battle_number : BattleFault → ℕ
battle_number battle.NoWarrior = 1
battle_number battle.TooMany = 2
battle_number battle.Overlap = 3
battle_number battle.StartOutside = 4
battle_number battle.FieldOutside = 5
battle_number battle.OutOfMemory = 6

-- The number of an error of a block.
abbrev pub block_number : BlockFault → ℕ
block_number block.Short = 1
block_number block.Mark = 2
block_number (block.Parameters fault) = 3
block_number block.Warriors = 4
block_number (block.Cell address) = 5
block_number (block.Queue warrior) = 6
block_number block.Deaths = 7
block_number block.Clock = 8
block_number block.Head = 9
block_number block.OutOfMemory = 10

-- The number of the parameter that is out of its range; 0 for other errors of a block.
abbrev pub block_problem : BlockFault → ℕ
block_problem (block.Parameters fault) = parameter_number fault
block_problem fault = 0

-- The address of the first wrong cell; 0 for other errors of a block.
abbrev pub block_line : BlockFault → ℕ
block_line (block.Cell address) = address
block_line fault = 0

-- The first warrior whose queue is wrong; 0 for other errors of a block.
abbrev pub block_warrior : BlockFault → ℕ
block_warrior (block.Queue warrior) = warrior
block_warrior fault = 0

-- The number of an edit's error. Number 1 is left for `NoSuchEdit`.
abbrev pub edit_number : EditFault → ℕ
edit_number edit.Address = 2
edit_number edit.FieldOutside = 3
edit_number edit.NoSuchWarrior = 4
edit_number edit.NoSuchProcess = 5
edit_number edit.WarriorDead = 6
edit_number edit.QueueFull = 7

-- The number of a problem of an assembly.
abbrev pub assembly_number : AsmProblem → ℕ
assembly_number (assembly.Text problem) = 1
assembly_number assembly.Operation = 2
assembly_number assembly.Operand = 3
assembly_number (assembly.Expression fault) = 4
assembly_number assembly.AssertFailed = 5
assembly_number assembly.BadOrigin = 6
assembly_number assembly.Empty = 7
assembly_number assembly.TooLong = 8
assembly_number assembly.OutOfMemory = 9

-- The number of a problem of a text.
abbrev pub text_number : TextProblem → ℕ
text_number text.NotAscii = 1
text_number text.BadToken = 2
text_number text.UnclosedFor = 3
text_number text.RofAlone = 4
text_number text.BadCount = 5
text_number text.LabelInCount = 6
text_number text.Duplicate = 7
text_number text.EquDepth = 8
text_number text.TooLong = 9
text_number (text.Expression fault) = 10
text_number text.OutOfMemory = 11

-- The number of the error of an expression within a problem of a text; 0 if the problem is another one.
abbrev pub text_expression : TextProblem → ℕ
text_expression (text.Expression fault) = expression_number fault
text_expression problem = 0

-- The numbers of the problem of the text and of the error of the expression within a problem of an assembly; 0 for a number that
-- does not apply.
abbrev pub problem_numbers : AsmProblem → ℕ × ℕ
problem_numbers (assembly.Text problem) = (text_number problem, text_expression problem)
problem_numbers (assembly.Expression fault) = (0, expression_number fault)
problem_numbers problem = (0, 0)

-- The index of the first byte of a token and the index after its last byte; 0 and 0 if there is no token.
abbrev pub token_bytes : Option Span → ℕ × ℕ
token_bytes (Some token) = (token.from, token.to)
token_bytes None = (0, 0)

-- The error with the code `code` and the number `number`. The other fields do not apply and are 0.
abbrev pub numbered : ℕ → ℕ → MarsFault
numbered code number = record { code = code; number = number; problem = 0; expression = 0; line = 0; warrior = 0; begin = 0; end = 0 }

-- The error that the caller gets for a refusal.
abbrev pub fault_of : CallRefusal → MarsFault
fault_of OutOfMemory = numbered 1 0
fault_of (Settings fault) = numbered 2 (settings_number fault)
fault_of (Parameters fault) = numbered 3 (parameter_number fault)
fault_of (Formula fault) = numbered 4 (expression_number fault)
fault_of (Assembly fault) = record (numbered 5 (assembly_number fault.problem)) {
  problem = (problem_numbers fault.problem).0;
  expression = (problem_numbers fault.problem).1;
  line = fault.line;
  begin = (token_bytes fault.token).0;
  end = (token_bytes fault.token).1;
}
fault_of (Load fault) = record (numbered 6 (load_number fault)) { line = load_line fault }
fault_of (Placement fault) = numbered 7 (placement_number fault)
fault_of (Battle fault) = numbered 8 (battle_number fault)
fault_of (Score fault) = numbered 9 (expression_number fault)
fault_of (Warrior index fault) = record (numbered 13 (entrant_number fault)) { line = entrant_line fault; warrior = index }
fault_of (Lineup index fault) = record (numbered 14 (lineup_number fault)) { warrior = index }

-- The error that the caller of a function on blocks gets for a refusal.
abbrev pub block_fault_of : BlockRefusal → MarsFault
block_fault_of refused.OutOfMemory = numbered 1 0
block_fault_of (refused.Block fault) = record (numbered 11 (block_number fault)) {
  problem = block_problem fault;
  line = block_line fault;
  warrior = block_warrior fault;
}
block_fault_of refused.Capacity = numbered 10 0
block_fault_of (refused.NoSuchEdit index) = record (numbered 12 1) { warrior = index }
block_fault_of (refused.Edit index fault) = record (numbered 12 (edit_number fault)) { warrior = index }
block_fault_of refused.History = numbered 2 6
block_fault_of (refused.Condition index) = record (numbered 15 0) { warrior = index }
block_fault_of refused.Pasts = numbered 2 7
block_fault_of refused.Process = numbered 16 0
