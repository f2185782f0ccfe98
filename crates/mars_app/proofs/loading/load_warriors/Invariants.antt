use Rattle.std.proofs.Common.{◌≡◌, length, map, string_bytes, take}
use Rattle.mars_app.specs.Loading.{AllFit, AreLoaded}
use Rattle.mars_app.proofs.loading.load_warriors.Given as goal

abbrev pub invariant-loop-name : goal.invariant-loop-name
invariant-loop-name g l = AllFit l.contest.params.now.core_size l.warriors.items × (length l.warriors.items ≡ l.name-index)
    × AreLoaded (g.F.WarriorFiles.known l.files) l.contest.params.now l.contest.rounds l.contest.warriors (map (λ s. string_bytes s) (take l.name-index l.names)) l.warriors.items
