-- What one read of csv tells of the records that are left.
use Rattle.std.proofs.Common.{◌≡◌, ℕ, suc, zero, List, [], ◌∷◌, length, ◌≤◌, arith, Option, Some, None, Bool, true, false, inl, refl, ◌∙◌}
use Rattle.std.specs.Borrow.{Bor}
use Rattle.csv.specs.Machine.{Read, next_record}
use Rattle.csv.specs.Reading.{NextIs, ReadRecord, ReadsNext, Ready, default_config, pending_of, records_from, reader_state, reader_trim, records_next, source_of, took_first}
use Rattle.csv.specs.declared.parser.State.{State}
use Rattle.csv.specs.declared.reader.Reader.{Reader}
use Rattle.csv.specs.declared.reader.Trim.TheVariants as trim
use Rattle.script_reader.specs.inside.Readers.{IsReading, ReadsRow, of_bytes, rows_left}

-- no turn is left
pub no_more : (s : State) (k : Option (List ℕ)) → of_bytes zero s k ≡ []
unfolding records_from
no_more s None = refl
no_more s (Some y) = refl

-- a record and those after it
some_next : (o : Option Read) (n : ℕ) (f : List (List ℕ)) (s : State) (z : List ℕ) → NextIs o true f s z → records_next (records_from default_config n) o ≡ f ∷ records_from default_config n s z
some_next None n f s z h = absurd cc
some_next (Some p) n f s z h = rw (h.1, h.2, h.3) refl

-- no record is left
none_next : (o : Option Read) (n : ℕ) (f : List (List ℕ)) (s : State) (z : List ℕ) → NextIs o false f s z → records_next (records_from default_config n) o ≡ []
none_next None n f s z h = refl
none_next (Some p) n f s z h = absurd cc

-- one record was read from known bytes
taken : (a b : State) (y : List ℕ) (f : List (List ℕ)) (k : Option (List ℕ)) → ReadsNext default_config a (Some y) k true f b
    → (z : List ℕ) × (k ≡ Some z) × ((n : ℕ) → records_from default_config (suc n) a y ≡ f ∷ records_from default_config n b z)
unfolding records_from
taken a b y f None r = absurd r
taken a b y f (Some z) r = (z, refl, λ n. some_next _ n f b z r)

-- none was
ended : (a b : State) (y : List ℕ) (f : List (List ℕ)) (k : Option (List ℕ)) → ReadsNext default_config a (Some y) k false f b
    → (n : ℕ) → records_from default_config n a y ≡ []
unfolding records_from
ended a b y f None r n = absurd r
ended a b y f (Some z) r zero = refl
ended a b y f (Some z) r (suc n) = none_next _ n f b z r

-- the bytes that a reader over a slice has left
abbrev rem : Bor (List ℕ) → Option (List ℕ)
rem s = Some s.now

-- a reader that gave a record goes on
pub row_taken : (a b : Reader (Bor (List ℕ))) (f : List (List ℕ)) → IsReading a → ReadRecord rem a b true f → Ready b → ReadsRow a true f b
row_taken a b f h r ready =
    let g = taken a.state b.state h.bytes f (pending_of (rem b.rdr) b) (rw (h.config, h.known) at r.0) in
    let known : source_of rem b ≡ Some g.0 = rw r.1 g.1 in
    (record { trim = r.3 ∙ h.trim; ready = ready; config = r.2 ∙ h.config; bytes = g.0; known = known }, λ n. rw (h.known, known) (g.2 n))

-- a reader that gave none has none left
pub row_ended : (a b : Reader (Bor (List ℕ))) (f : List (List ℕ)) → IsReading a → ReadRecord rem a b false f → ReadsRow a false f b
row_ended a b f h r n = rw h.known (ended a.state b.state h.bytes f (pending_of (rem b.rdr) b) (rw (h.config, h.known) at r.0) n)

-- either of the two
pub row_read : (found : Bool) (a b : Reader (Bor (List ℕ))) (f : List (List ℕ)) → IsReading a
    → (reader_trim a ≡ trim.None → Ready a → ReadRecord rem a b found f) → (reader_trim a ≡ trim.None → took_first b ≡ true) → ReadsRow a found f b
row_read true a b f h reads ready = row_taken a b f h (reads h.trim h.ready) (inl (ready h.trim))
row_read false a b f h reads ready = row_ended a b f h (reads h.trim h.ready)

-- without a turn there are no rows
pub done_is : (n : ℕ) (r : Reader (Bor (List ℕ))) → n ≡ 0 → rows_left n r ≡ []
done_is n r e = rw e (no_more (reader_state r) (source_of (λ s. Some s.now) r))

-- as many records as turns: one more
few_next : (n : ℕ) (o : Option Read) → ((s : State) (xs : List ℕ) → length (records_from default_config n s xs) ≤ n) → length (records_next (records_from default_config n) o) ≤ suc n
few_next n None h = omega arith
few_next n (Some p) h = omega (arith, h p.1 p.2)

-- as many records as turns
few_from : (n : ℕ) (s : State) (xs : List ℕ) → length (records_from default_config n s xs) ≤ n
unfolding records_from
few_from zero s xs = omega arith
few_from (suc n) s xs = few_next n (next_record default_config s [] [] xs) (few_from n)

-- the same where the bytes may be unknown
few_of : (n : ℕ) (s : State) (k : Option (List ℕ)) → length (of_bytes n s k) ≤ n
few_of n s None = omega arith
few_of n s (Some y) = few_from n s y

-- the same of a reader
pub few_rows : (n : ℕ) (r : Reader (Bor (List ℕ))) → length (rows_left n r) ≤ n
few_rows n r = few_of n (reader_state r) (source_of (λ s. Some s.now) r)
