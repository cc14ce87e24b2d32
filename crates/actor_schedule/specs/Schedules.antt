-- Which actor a worker is given, and when a worker that sleeps is notified.
use Rattle.std.specs.Prelude.{ℕ, zero, suc, ◌+◌, ◌-◌, ◌%◌, ◌^◌, min, Bool, true, false, ◌&&◌, ◌||◌, ◌==◌, nat_lt, List, [], ◌∷◌, replicate, set, slice_index, slice_index_or, find, Option, Some, None}
use Rattle.std.specs.Option.{option_or}
use Rattle.tv_base.specs.Outside.{one_more}
use Rattle.actor_schedule.specs.declared.schedule.Schedule.{Schedule}
use Rattle.actor_schedule.specs.declared.schedule.TheConstants.{MOST_ACTORS, NOBODY}

-- no actor is ready, nobody has served any, and no worker sleeps
abbrev pub at_first : Schedule
at_first = record {
  ready = replicate MOST_ACTORS false;
  waiting = 0;
  server = replicate MOST_ACTORS NOBODY;
  asleep = 0;
  notified = 0;
  finished = false;
  stopped = false;
}

-- that many actors one after the other, from a place on, in cyclic order
abbrev pub in_turn : (actors from count : ℕ) → List ℕ
in_turn actors from zero = []
in_turn actors from (suc count) = (from % actors) ∷ in_turn actors (from + 1) count

-- whether an actor is ready
abbrev pub is_ready : Schedule → ℕ → Bool
is_ready s actor = slice_index_or s.ready actor false

-- whether a worker was the last to serve an actor, or nobody has served it
abbrev pub is_own_actor : Schedule → ℕ → ℕ → Bool
is_own_actor s worker actor = (slice_index s.server actor == worker) || (slice_index s.server actor == NOBODY)

-- whether an actor is one for this worker, or for any
abbrev pub is_for_worker : Schedule → Option ℕ → ℕ → Bool
is_for_worker s None actor = true
is_for_worker s (Some worker) actor = is_own_actor s worker actor

-- whether an actor is ready, and one for this worker, or for any
abbrev pub may_be_given : Schedule → Option ℕ → ℕ → Bool
may_be_given s worker actor = is_for_worker s worker actor && is_ready s actor

-- the first of all actors, in cyclic order from a place on, that is ready, and one for this worker, or for any
abbrev pub first_ready : Schedule → ℕ → ℕ → Option ℕ → Option ℕ
first_ready s from actors worker = find (may_be_given s worker) (in_turn actors from actors)

-- the actor that a worker is given: the first that is ready of its own, or else of all
abbrev pub next_for : Schedule → ℕ → ℕ → ℕ → Option ℕ
next_for s worker from actors = option_or (first_ready s from actors (Some worker)) (first_ready s from actors None)

-- an actor that wasn't ready is so, and one more is
abbrev pub with_ready : ℕ → Schedule → Schedule
with_ready actor s = record s { ready = set s.ready actor true; waiting = (s.waiting + 1) % 2 ^ 64 }

-- a worker has the actor, if there is one: it isn't ready, one less is, and this worker is the last to serve it
abbrev pub with_given : ℕ → Option ℕ → Schedule → Schedule
with_given worker None s = s
with_given worker (Some actor) s = record s {
  ready = set s.ready actor false;
  server = set s.server actor worker;
  waiting = (s.waiting + (2 ^ 64 - 1)) % 2 ^ 64;
}

-- whether one of those who sleep is notified: more actors are ready than those who were notified, and the caller, take
abbrev pub notifies_one : ℕ → Schedule → Bool
notifies_one own s = nat_lt 0 s.asleep && nat_lt (min (s.notified + own) (2 ^ 64 - 1)) s.waiting

-- one of those who sleep is notified
abbrev pub with_notified : Schedule → Schedule
with_notified s = record s { asleep = s.asleep - 1; notified = one_more s.notified }

-- whether a worker that sleeps is to get up: one was notified, or all workers are to end
abbrev pub is_to_get_up : Schedule → Bool
is_to_get_up s = nat_lt 0 s.notified || s.finished || s.stopped
