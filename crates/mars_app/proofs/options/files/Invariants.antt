use Rattle.std.proofs.Common.{◌≡◌, ◌≤◌, length, map, take, string_bytes}
use Rattle.mars_app.proofs.options.files.Given as goal

abbrev pub invariant-loop-name : goal.invariant-loop-name
invariant-loop-name l =
    (map (λ name. string_bytes name) l.files.items ≡ map (λ word. word.now) (take l.name-index l.names)) × (l.name-index ≤ length l.names)
