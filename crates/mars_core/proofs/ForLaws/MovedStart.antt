-- Shifting all starting positions gives the shifted battle.
use Rattle.std.proofs.Common.{◌≡◌, ℕ, zero, suc, ◌+◌, true, length, All, inl, inr, ◌%◌, ◌<◌, List, [], ◌∷◌, map, refl, ap, sym, ◌∙◌, arith}
use Rattle.std.proofs.Common.{replicate}
use Rattle.std.proofs.Math.Nat.{mod-lt, mod-eq_of_lt, mod-add-mod}
use Rattle.std.specs.Prelude.{◌==◌, nat_lt}
use Rattle.std.specs.List.{list_all}
use Rattle.std.proofs.lemmas.Bool.{cases_eq}
use Rattle.std.proofs.lemmas.Bool.Decides.{nat_tests}
use Rattle.std.proofs.lemmas.List.{length-replicate, get_or-replicate, map-append}
use Rattle.std.proofs.lemmas.List.Elements.{All-nil, All-cons, All-append, All-head, All-tail}
use Rattle.mars_cell.specs.declared.instruction.Cell.{Cell}
use Rattle.mars_cell.specs.Cells.{empty_cell}
use Rattle.mars_cell.specs.Parameters.{Parameters, AreInRange}
use Rattle.mars_cell.specs.Warriors.{WarriorValue}
use Rattle.mars_core.specs.Addresses.{address_after}
use Rattle.mars_core.specs.Moved.{moved_core, moved}
use Rattle.mars_core.specs.Start.{addresses_from, loaded_addresses, is_in, has_duplicate, overlap, start_fault, with_warrior, with_warriors, first_processes, start_state}
use Rattle.mars_core.proofs.ForLaws.Alike.{Alike, set_alike}
use Rattle.mars_core.proofs.Fits.{address_inside}
use Rattle.mars_core.proofs.ForLaws.Relative.{one, corresponds, moved_alike, one_core}
use Rattle.mars_core.proofs.Turns.{same_eq, other_eq}

module _ (p : Parameters) (r : AreInRange p) (k : ℕ) (h : k < p.core_size) where
  abbrev m : ℕ
  m = p.core_size

  abbrev there : ℕ → ℕ
  there a = address_after m a k

  abbrev AreAlike : List Cell → List Cell → Type 0
  AreAlike core core' = Alike m there (λ a. a < m) core core'

  -- If the residue of an address is shifted, so is the residue of an address `d` cells further.
  further : (a a' d : ℕ) → a' % m ≡ there (a % m) → (a' + d) % m ≡ there ((a + d) % m)
  unfolding address_after
  further a a' d e =
      sym (mod-add-mod a' m d) ∙ ap (λ n. (n + d) % m) e ∙ mod-add-mod (a % m + k) m d ∙ ap (λ n. n % m) (omega arith)
      ∙ mod-add-mod a m (k + d) ∙ ap (λ n. n % m) (omega arith) ∙ sym (mod-add-mod (a + d) m k)

  start_there : (s : ℕ) → there s % m ≡ there (s % m)
  unfolding address_after
  start_there s = mod-eq_of_lt (mod-lt (s + k) r.core_least) ∙ sym (mod-add-mod s m k)

  with_warrior_alike : (cells : List Cell) (a a' : ℕ) (core core' : List Cell) → a' % m ≡ there (a % m) → AreAlike core core' → AreAlike (with_warrior m a cells core) (with_warrior m a' cells core')
  with_warrior_alike [] a a' core core' e alike = alike
  with_warrior_alike (cell ∷ cells) a a' core core' e alike =
      with_warrior_alike cells (a + 1) (a' + 1) _ _ (further a a' 1 e)
      (rw e (set_alike p there (λ a. a < m) 0 (there 0) (corresponds p r k h 0 r.core_least) core core' (a % m) cell (mod-lt a r.core_least) alike))

  with_warriors_alike : (ws : List WarriorValue) (starts : List ℕ) (core core' : List Cell) → AreAlike core core' → AreAlike (with_warriors m ws starts core) (with_warriors m ws (map there starts) core')
  with_warriors_alike [] starts core core' alike = alike
  with_warriors_alike (w ∷ ws) [] core core' alike = alike
  with_warriors_alike (w ∷ ws) (s ∷ starts) core core' alike =
      with_warriors_alike ws starts _ _ (with_warrior_alike w.cells s (there s) core core' (start_there s) alike)

  first_there : (ws : List WarriorValue) (starts : List ℕ) → first_processes m ws (map there starts) ≡ map there (first_processes m ws starts)
  first_there [] starts = refl
  first_there (w ∷ ws) [] = refl
  first_there (w ∷ ws) (s ∷ starts) = rw (further s (there s) w.start (start_there s), first_there ws starts) refl

  each_alone : (xs : List ℕ) → map (λ a. a ∷ []) (map there xs) ≡ map (map there) (map (λ a. a ∷ []) xs)
  each_alone [] = refl
  each_alone (x ∷ xs) = ap (λ (qs : List (List ℕ)). (there x ∷ []) ∷ qs) (each_alone xs)

  blank_alike : AreAlike (replicate m empty_cell) (replicate m empty_cell)
  blank_alike = record {
    size = length-replicate m empty_cell;
    size_there = length-replicate m empty_cell;
    cells = λ a l.
        get_or-replicate m (there a) empty_cell empty_cell (address_inside m a k r.core_least) ∙ sym (get_or-replicate m a empty_cell empty_cell l);
  }

  core_there : (ws : List WarriorValue) (starts : List ℕ) → with_warriors m ws (map there starts) (replicate m empty_cell) ≡ moved_core m k (with_warriors m ws starts (replicate m empty_cell))
  core_there ws starts =
      let core = with_warriors m ws starts (replicate m empty_cell) in
      let alike = with_warriors_alike ws starts _ _ blank_alike in
      one_core p r k h core _ _ alike (moved_alike p r k h core alike.size)

  -- All addresses are in the core. The lemmas below state that the loaded addresses are shifted, too, and that two of
  -- them are equal exactly if the addresses were equal before the shift.
  abbrev AreInside : List ℕ → Type 0
  AreInside xs = All (λ a. a < m) xs

  row_there : (n a a' : ℕ) → a' % m ≡ there (a % m) → addresses_from m a' n ≡ map there (addresses_from m a n)
  row_there zero a a' e = refl
  row_there (suc n) a a' e = rw (e, row_there n (a + 1) (a' + 1) (further a a' 1 e)) refl

  loaded_there : (ws : List WarriorValue) (starts : List ℕ) → loaded_addresses m ws (map there starts) ≡ map there (loaded_addresses m ws starts)
  loaded_there [] starts = refl
  loaded_there (w ∷ ws) [] = refl
  loaded_there (w ∷ ws) (s ∷ starts) =
      rw (row_there (length w.cells) s (there s) (start_there s), loaded_there ws starts) (sym (map-append there (addresses_from m s (length w.cells)) (loaded_addresses m ws starts)))

  row_inside : (n a : ℕ) → AreInside (addresses_from m a n)
  row_inside zero a = All-nil (λ a. a < m)
  row_inside (suc n) a = All-cons (λ a. a < m) _ _ (mod-lt a r.core_least) (row_inside n (a + 1))

  loaded_inside : (ws : List WarriorValue) (starts : List ℕ) → AreInside (loaded_addresses m ws starts)
  loaded_inside [] starts = All-nil (λ a. a < m)
  loaded_inside (w ∷ ws) [] = All-nil (λ a. a < m)
  loaded_inside (w ∷ ws) (s ∷ starts) = All-append (λ a. a < m) _ _ (row_inside (length w.cells) s) (loaded_inside ws starts)

  same_there : (a b : ℕ) → a < m → b < m → (there a == there b) ≡ (a == b)
  same_there a b l n =
      elim (cases_eq a b) [
        | inl same ↦ rw (same, same_eq b, same_eq (there b)) refl
        | inr other ↦ rw (other_eq a b (λ e. other (sym e)), other_eq (there a) (there b) (λ e. other (one p r k h a b l n (sym e)))) refl
      ]

  is_in_there : (xs : List ℕ) (x : ℕ) → AreInside xs → x < m → is_in (map there xs) (there x) ≡ is_in xs x
  is_in_there [] x all l = refl
  is_in_there (y ∷ xs) x all l =
      rw (same_there x y l (All-head (λ a. a < m) y xs all), is_in_there xs x (All-tail (λ a. a < m) y xs all) l) refl

  duplicate_there : (xs : List ℕ) → AreInside xs → has_duplicate (map there xs) ≡ has_duplicate xs
  duplicate_there [] all = refl
  duplicate_there (x ∷ xs) all =
      let rest = All-tail (λ a. a < m) x xs all in
      rw (is_in_there xs x rest (All-head (λ a. a < m) x xs all), duplicate_there xs rest) refl

  overlap_there : (ws : List WarriorValue) (starts : List ℕ) → overlap m ws (map there starts) ≡ overlap m ws starts
  unfolding overlap
  overlap_there ws starts = ap has_duplicate (loaded_there ws starts) ∙ duplicate_there (loaded_addresses m ws starts) (loaded_inside ws starts)

  starts_inside : (starts : List ℕ) → AreInside starts → list_all (λ s. nat_lt s m) (map there starts) ≡ list_all (λ s. nat_lt s m) starts
  starts_inside [] all = refl
  starts_inside (s ∷ starts) all =
      rw (less (there s) (address_inside m s k r.core_least), less s (All-head (λ a. a < m) s starts all), starts_inside starts (All-tail (λ a. a < m) s starts all)) refl
    where
      less : (a : ℕ) → a < m → nat_lt a m ≡ true
      less a l = grind (arith, nat_tests)

  pub fault_moved : (ws : List WarriorValue) (starts : List ℕ) → AreInside starts → start_fault p ws (map there starts) ≡ start_fault p ws starts
  fault_moved ws starts all = rw (overlap_there ws starts, starts_inside starts all) refl

pub start_moved : (p : Parameters) (ws : List WarriorValue) (starts : List ℕ) (k : ℕ) → AreInRange p → k < p.core_size → start_state p ws (map (λ s. address_after p.core_size s k) starts) ≡ moved k (start_state p ws starts)
unfolding start_state
start_moved p ws starts k r h =
    rw (core_there p r k h ws starts, first_there p r k h ws starts, each_alone p r k h (first_processes p.core_size ws starts)) refl
