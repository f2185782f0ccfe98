-- The queue of the warrior that a record names, among the queues of all warriors, and how it is changed.
use Rattle.std.proofs.Common.{◌≡◌, ℕ, ◌<◌, List, length, get_or, set, All, ap, sym, ◌∙◌, subst, Option, Some}
use Rattle.std.proofs.lemmas.List.{length-map}
use Rattle.std.proofs.lemmas.List.Elements.{All-get_or}
use Rattle.mars_core.specs.Record.{with_queue}
use Rattle.mars_core.specs.Queue.{Queue, addresses_of}
use Rattle.mars_core.specs.Code.Records.{HasQueue}
use Rattle.mars_core.proofs.Live.{addresses_at}
use Rattle.mars_core.proofs.TurnState.{addresses-set}

module _ (qs : List Queue) (o : Option ℕ) (w : ℕ) (some : Some w ≡ o) where
  pub warrior_inside : (f : List ℕ → Type 0) → HasQueue o f (addresses_of qs) → w < length qs
  warrior_inside f h =
      let k = (subst (λ (o : Option ℕ). HasQueue o f (addresses_of qs)) (sym some) h).0 in simp length-map at k

  pub queue_has : (f : List ℕ → Type 0) (d : Queue) → HasQueue o f (addresses_of qs) → f (get_or qs w d).addresses
  queue_has f d h =
      let k = subst (λ (o : Option ℕ). HasQueue o f (addresses_of qs)) (sym some) h in
      subst f (addresses_at qs w d (warrior_inside f h)) k.1

  pub queue_changed : (f : List ℕ → List ℕ) (d q : Queue) → w < length qs → q.addresses ≡ f (get_or qs w d).addresses → addresses_of (set qs w q) ≡ with_queue o f (addresses_of qs)
  queue_changed f d q h e =
      addresses-set qs w q
      ∙ ap (set (addresses_of qs) w) (e ∙ ap f (sym (addresses_at qs w d h)))
      ∙ ap (λ (o : Option ℕ). with_queue o f (addresses_of qs)) some

pub limit_at : (qs : List Queue) (w limit : ℕ) (d : Queue) → w < length qs → All (λ (q : Queue). q.limit ≡ limit) qs → (get_or qs w d).limit ≡ limit
limit_at qs w limit d h all = All-get_or (λ (q : Queue). q.limit ≡ limit) qs w d h all
