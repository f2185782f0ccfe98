-- Files in memory, and warriors file by file.
use Rattle.std.proofs.Common.{◌≡◌, ◌∙◌, ap, sym, arith, refl, ℕ, ◌+◌, ◌<◌, List, [], ◌∷◌, ◌++◌, length, take, drop, get_or, map, Option, String}
use Rattle.std.proofs.lemmas.List.{drop_more, map-append, take-append-drop, take_more}
use Rattle.std.specs.Global.{Global}
use Rattle.std.specs.Prelude.{string_bytes}
use Rattle.mars_cell.specs.Parameters.{Parameters}
use Rattle.mars_cell.specs.Warriors.{WarriorValue}
use Rattle.mars_app.specs.Faults.{FailsToLoad, FirstFails}
use Rattle.mars_app.specs.declared.fault.RunFault.{RunFault}
use Rattle.mars_app.specs.Loading.{IsLoaded, AreLoaded}

module _ (known : List ℕ → Option (List ℕ)) (p : Parameters) (rounds count : ℕ) where
  loaded_push : (names : List (List ℕ)) (ws : List WarriorValue) (name : List ℕ) (w : WarriorValue) → AreLoaded known p rounds count names ws
      → IsLoaded known p rounds count name w → AreLoaded known p rounds count (names ++ name ∷ []) (ws ++ w ∷ [])
  loaded_push [] [] name w all one = (one, tt)
  loaded_push [] (v ∷ ws) name w all one = absurd all
  loaded_push (n ∷ names) [] name w all one = absurd all
  loaded_push (n ∷ names) (v ∷ ws) name w all one = (all.0, loaded_push names ws name w all.1 one)

  -- Loading one more file.
  pub loaded_more : (names : List (String Global)) (i : ℕ) (d : String Global) (ws : List WarriorValue) (w : WarriorValue) → i < length names
      → AreLoaded known p rounds count (map (λ s. string_bytes s) (take i names)) ws → IsLoaded known p rounds count (string_bytes (get_or names i d)) w
      → AreLoaded known p rounds count (map (λ s. string_bytes s) (take (i + 1) names)) (ws ++ w ∷ [])
  loaded_more names i d ws w inside all one =
      rw (take_more names i d inside, map-append (λ (s : String Global). string_bytes s) (take i names) (get_or names i d ∷ []))
      (loaded_push (map (λ s. string_bytes s) (take i names)) ws (string_bytes (get_or names i d)) w all one)

  -- Loading only one file.
  pub loaded_alone : (names : List (String Global)) (w : WarriorValue) (d : String Global) → length names ≡ 1
      → IsLoaded known p rounds count (string_bytes (get_or names 0 d)) w → AreLoaded known p rounds count (map (λ s. string_bytes s) names) (w ∷ [])
  loaded_alone [] w d one h = absurd (omega arith)
  loaded_alone (name ∷ []) w d one h = (h, tt)
  loaded_alone (name ∷ other ∷ names) w d one h = absurd (omega arith)

  pub first_fails : (names : List (String Global)) (i : ℕ) (d : String Global) (ws : List WarriorValue) (f : RunFault) → i < length names
      → AreLoaded known p rounds count (map (λ s. string_bytes s) (take i names)) ws → FailsToLoad known p rounds count (string_bytes (get_or names i d)) f
      → FirstFails known p rounds count (map (λ s. string_bytes s) names) f
  first_fails names i d ws f inside all fails = record {
    before = map (λ s. string_bytes s) (take i names);
    name = string_bytes (get_or names i d);
    after = map (λ s. string_bytes s) (drop (i + 1) names);
    parts = ap (map (λ s. string_bytes s)) (sym (take-append-drop i names) ∙ ap (λ rest. take i names ++ rest) (drop_more names i d inside))
        ∙ map-append (λ (s : String Global). string_bytes s) (take i names) (get_or names i d ∷ drop (i + 1) names);
    warriors = ws;
    loaded = all;
    fails = fails;
  }

  pub alone_fails : (names : List (String Global)) (d : String Global) (f : RunFault) → length names ≡ 1
      → FailsToLoad known p rounds count (string_bytes (get_or names 0 d)) f → FirstFails known p rounds count (map (λ s. string_bytes s) names) f
  alone_fails [] d f one fails = absurd (omega arith)
  alone_fails (name ∷ []) d f one fails = record {
    before = [];
    name = string_bytes name;
    after = [];
    parts = refl;
    warriors = [];
    loaded = tt;
    fails = fails;
  }
  alone_fails (name ∷ other ∷ names) d f one fails = absurd (omega arith)
