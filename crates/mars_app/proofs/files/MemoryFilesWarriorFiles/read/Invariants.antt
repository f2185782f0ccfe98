use Rattle.std.proofs.Common.{◌≡◌, drop}
use Rattle.mars_app.specs.Loading.{file_named}
use Rattle.mars_app.proofs.files.MemoryFilesWarriorFiles.read.Given as goal

-- No file before the present one has the name that is looked for.
abbrev pub invariant-loop-held : goal.invariant-loop-held
invariant-loop-held l = file_named (drop l.held-index l.self.files.items) l.name ≡ file_named l.self.files.items l.name
