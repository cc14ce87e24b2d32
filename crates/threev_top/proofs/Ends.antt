-- How a call ends, from what was made and what was written, and what follows for its status.
use Rattle.std.proofs.Common.{◌≡◌, ◌≢◌, ◌≤◌, ◌+◌, ◌⊎◌, inl, inr, ℕ, List, Option, None, Some, false, refl, sym, ap, subst, arith}
use Rattle.std.specs.Prelude.{IsTrue}
use Rattle.std.specs.Io.KnownBytes.{Appends}
use Rattle.tv_base.specs.Outside.{AppendsFront, HasTaken, Rose}
use Rattle.history_audit.specs.declared.source_audit.HistoryFault.{HistoryFault}
use Rattle.command_words.specs.declared.Line.{Line}
use Rattle.command_words.specs.declared.Line.TheVariants as lines
use Rattle.letter_types.specs.declared.entries.Entry.{Entry}
use Rattle.script_reader.specs.declared.reading.ScriptFault.{ScriptFault}
use Rattle.threev_top.specs.Calls.{EndsAs, FailsAudit, HasCause, most_bytes, reads_script, Refuses, Tells, TellsEnd, WroteBy}
use Rattle.threev_top.specs.Texts.{line_told, status_of}
use Rattle.threev_top.specs.inside.Calls.{MayTell}
use Rattle.threev_top.specs.declared.stops.Stop.{Stop}
use Rattle.threev_top.specs.declared.stops.Stop.TheVariants as stops

-- what is so of the text that was made is so of a line's text
received : (P : List ℕ → Type 0) (bytes : List ℕ) (line : Option Line) (left now : Option (List ℕ)) (h : List Entry)
    → WroteBy (λ text. text ≡ bytes) line left now h → P bytes → WroteBy P line left now h
received P bytes None left now h made is = absurd made
received P bytes (Some line) left now h (text, by_line, same) is = (text, by_line, subst P (sym same) is)

-- what was made was written, or a prefix of it
pub written_ends : {S K : Type 0} {left : S → Option (List ℕ)} {read_faults : S → ℕ} {source source' : S}
    {got : K → Option (List ℕ)} {write_faults : K → ℕ} {out out' : K} {line : Option Line} {stop : Option Stop}
    {history made : List Entry} (bytes : List ℕ)
    → WroteBy (λ text. text ≡ bytes) line (left source) (left source') made
    → (reads_script line ≡ false → source' ≡ source) → HasTaken (most_bytes line + 1) (left source) (left source')
    → (stop ≡ None → Appends (got out) (got out') bytes)
    → (stop ≡ Some stops.Writing → AppendsFront (got out) (got out') bytes)
    → ((s : Stop) → stop ≡ Some s → (s ≡ stops.Writing) × Rose (write_faults out) (write_faults out'))
    → history ≡ made → EndsAs left read_faults source source' got write_faults out out' line stop history
written_ends {S} {K} {left} {read_faults} {source} {source'} {got} {write_faults} {out} {out'} {line} {stop} {history} {made} bytes wrote unread taken whole front failed same =
    let here : WroteBy (λ text. text ≡ bytes) line (left source) (left source') history =
    subst (λ (h : List Entry). WroteBy (λ text. text ≡ bytes) line (left source) (left source') h) (sym same) wrote in
    let C : Stop → Type 0 = HasCause line (left source) (left source') (Rose (read_faults source) (read_faults source'))
    (Rose (write_faults out) (write_faults out')) in
    record {
      wrote = λ is. received (Appends (got out) (got out')) bytes line (left source) (left source') history here (whole is);
      front = λ is. received (AppendsFront (got out) (got out')) bytes line (left source) (left source') history here (front is);
      cause = λ s is. subst C (sym (failed s is).0) (failed s is).1;
      nothing = λ s is other. absurd (other (failed s is).0);
      unread = unread;
      taken = taken;
    }

-- a call that stops with a refused script or history may as well have stopped for lack of memory
memory_ends : {S K : Type 0} {left : S → Option (List ℕ)} {read_faults : S → ℕ} {source source' : S}
    {got : K → Option (List ℕ)} {write_faults : K → ℕ} {out out' : K} {line : Option Line} {history : List Entry}
    (stop : Stop) → stop ≢ stops.Writing
    → EndsAs left read_faults source source' got write_faults out out' line (Some stop) history
    → EndsAs left read_faults source source' got write_faults out out' line (Some stops.NoMemory) history
memory_ends {S} {K} {left} {read_faults} {source} {source'} {got} {write_faults} {out} {out'} {line} {history} stop early ends =
    let C : Stop → Type 0 = HasCause line (left source) (left source') (Rose (read_faults source) (read_faults source'))
    (Rose (write_faults out) (write_faults out')) in
    record {
      wrote = λ is. absurd (cc is);
      front = λ is. absurd (cc is);
      cause = λ s is. let same : stops.NoMemory ≡ s = cc is in subst C same tt;
      nothing = λ s is other. ends.nothing stop refl early;
      unread = ends.unread;
      taken = ends.taken;
    }

-- what is so of a stop is so of what is told of it, where it is so of running out of memory in place of a refused
-- script
of_told : (P : Stop → Type 0) (stop told : Stop) → MayTell stop told
    → ((s : Stop) → s ≢ stops.Writing → P s → P stops.NoMemory) → P stop → P told
of_told P stops.NoMemory told is memory here = subst P (sym is) here
of_told P stops.Words told is memory here = subst P (sym is) here
of_told P (stops.Script f) told (inl is) memory here = subst P (sym is) here
of_told P (stops.Script f) told (inr is) memory here = subst P (sym is) (memory (stops.Script f) (λ e. cc e) here)
of_told P (stops.History f) told (inl is) memory here = subst P (sym is) here
of_told P (stops.History f) told (inr is) memory here = subst P (sym is) (memory (stops.History f) (λ e. cc e) here)
of_told P stops.Reading told is memory here = subst P (sym is) here
of_told P stops.Writing told is memory here = subst P (sym is) here

-- so a call ends as is told
pub ends_as_told : {S K : Type 0} {left : S → Option (List ℕ)} {read_faults : S → ℕ} {source source' : S}
    {got : K → Option (List ℕ)} {write_faults : K → ℕ} {out out' : K} {line : Option Line} {end : Option Stop}
    {history : List Entry} {stop told : Stop}
    → EndsAs left read_faults source source' got write_faults out out' line end history → end ≡ Some stop
    → MayTell stop told → EndsAs left read_faults source source' got write_faults out out' line (Some told) history
ends_as_told {S} {K} {left} {read_faults} {source} {source'} {got} {write_faults} {out} {out'} {line} {end} {history} {stop} {told} ends is may =
    of_told (λ s. EndsAs left read_faults source source' got write_faults out out' line (Some s) history) stop told may
    (λ s early refused. memory_ends s early refused)
    (subst (λ (o : Option Stop). EndsAs left read_faults source source' got write_faults out out' line o history) is ends)

-- and its stop is told by its status and its line
pub told_end : {E : Type 0} {got : E → Option (List ℕ)} {faults : E → ℕ} {err err' : E} {n : ℕ} (told : Stop)
    → n ≡ status_of (Some told) → Tells (got err) (got err') (faults err) (faults err') (line_told told)
    → TellsEnd got faults err err' (Some told) n
told_end {E} {got} {faults} {err} {err'} {n} told is line = record {
  number = is;
  quiet = λ none. absurd (cc none);
  line = λ s at. let same : told ≡ s = cc at in
      subst (λ (s : Stop). Tells (got err) (got err') (faults err) (faults err') (line_told s)) same line;
}

-- without a line the words are refused, or memory was wanting
no_line_by : (left now : Option (List ℕ)) (read_failed write_failed : Type 0) (stop : Stop) (n : ℕ)
    → HasCause None left now read_failed write_failed stop → (stop ≡ stops.Writing → ⊥) → n ≡ status_of (Some stop)
    → (n ≡ 1) ⊎ (n ≡ 2)
no_line_by left now rf wf stops.NoMemory n has other is = inl is
no_line_by left now rf wf stops.Words n has other is = inr is
no_line_by left now rf wf (stops.Script f) n has other is = absurd (cc has.0)
no_line_by left now rf wf stops.Reading n has other is = absurd (cc has.0)
no_line_by left now rf wf (stops.History f) n has other is = absurd (cc has.0)
no_line_by left now rf wf stops.Writing n has other is = absurd (other refl)

pub no_line_status : {S K : Type 0} {left : S → Option (List ℕ)} {read_faults : S → ℕ} {source source' : S}
    {got : K → Option (List ℕ)} {write_faults : K → ℕ} {out out' : K} {line : Option Line} {stop : Stop}
    {history : List Entry} {n : ℕ}
    → EndsAs left read_faults source source' got write_faults out out' line (Some stop) history
    → n ≡ status_of (Some stop) → line ≡ None → (n ≡ 1) ⊎ (n ≡ 2)
no_line_status {S} {K} {left} {read_faults} {source} {source'} {got} {write_faults} {out} {out'} {line} {stop} {history} {n} ends is none =
    let read_failed : Type 0 = Rose (read_faults source) (read_faults source') in
    let write_failed : Type 0 = Rose (write_faults out) (write_faults out') in
    no_line_by (left source) (left source') read_failed write_failed stop n
    (subst (λ (l : Option Line). HasCause l (left source) (left source') read_failed write_failed stop) none (ends.cause stop refl))
    (λ at. subst (λ (l : Option Line). WroteBy (AppendsFront (got out) (got out')) l (left source) (left source') history) none
    (ends.front (ap (λ (s : Stop). Some s) at)))
    is

-- an audit reads a script
audits_read : (line : Option Line) → line ≡ Some lines.Audit → IsTrue (reads_script line)
audits_read line is = ap reads_script is

-- where no stop but out of memory has its cause, the status is 0 or 1
no_cause_by : (line : Option Line) (left now : Option (List ℕ)) (read_failed write_failed : Type 0) (stop : Stop) (n : ℕ)
    → HasCause line left now read_failed write_failed stop → n ≡ status_of (Some stop) → line ≢ None
    → (write_failed → ⊥)
    → (IsTrue (reads_script line) → (read_failed → ⊥) × ((f : ScriptFault) → Refuses line left now f → ⊥)
    × ((f : HistoryFault) → FailsAudit line left now f → ⊥)) → n ≤ 1
no_cause_by line left now rf wf stops.NoMemory n has is some writes reads = omega (arith, is)
no_cause_by line left now rf wf stops.Words n has is some writes reads = absurd (some has)
no_cause_by line left now rf wf (stops.Script f) n has is some writes reads = absurd ((reads has.0).1 f has.1)
no_cause_by line left now rf wf (stops.History f) n has is some writes reads = absurd ((reads (audits_read line has.0)).2 f has)
no_cause_by line left now rf wf stops.Reading n has is some writes reads = absurd ((reads has.0).0 has.1)
no_cause_by line left now rf wf stops.Writing n has is some writes reads = absurd (writes has)

pub no_cause_status : {S K : Type 0} {left : S → Option (List ℕ)} {read_faults : S → ℕ} {source source' : S}
    {got : K → Option (List ℕ)} {write_faults : K → ℕ} {out out' : K} {line : Option Line} {stop : Stop}
    {history : List Entry} {n : ℕ}
    → EndsAs left read_faults source source' got write_faults out out' line (Some stop) history
    → n ≡ status_of (Some stop) → line ≢ None → (Rose (write_faults out) (write_faults out') → ⊥)
    → (IsTrue (reads_script line) → (Rose (read_faults source) (read_faults source') → ⊥)
    × ((f : ScriptFault) → Refuses line (left source) (left source') f → ⊥)
    × ((f : HistoryFault) → FailsAudit line (left source) (left source') f → ⊥)) → n ≤ 1
no_cause_status {S} {K} {left} {read_faults} {source} {source'} {got} {write_faults} {out} {out'} {line} {stop} {history} {n} ends is =
    no_cause_by line (left source) (left source') (Rose (read_faults source) (read_faults source'))
    (Rose (write_faults out) (write_faults out')) stop n (ends.cause stop refl) is
