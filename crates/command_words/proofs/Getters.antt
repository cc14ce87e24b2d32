-- What clap's getters read is what its rows say.
use Rattle.std.proofs.Common.{◌≡◌, ◌∙◌, ℕ, Bool, List, [], ◌∷◌, map, Option, Some, None, refl, sym, ap}
use Rattle.std.specs.Prelude.{find, option_and_then, option_map, slice_get, codes}
use Rattle.std.specs.Str.{bytes_eq}
use Rattle.std.specs.Borrow.{Bor}
use Rattle.clap.specs.Words.{Row, Text, first_of, first_value, found_of, rows_of}
use Rattle.clap.specs.Facts.{Entry}
use Rattle.clap.specs.Walk.{row_of}
use Rattle.clap.proofs.WalkLemmas.{find_row}
use Rattle.clap.specs.declared.parser.matches.ArgMatches.{ArgMatches}
use Rattle.clap.specs.declared.parser.matches.Found.{Found}
use Rattle.command_words.specs.inside.Parser.{line_from, line_of_rows}

first_text : (xs : List (Bor (List ℕ))) → option_map (λ s. s.now) (slice_get xs 0) ≡ slice_get (map (λ s. s.now) xs) 0
first_text [] = refl
first_text (x ∷ xs) = refl

by_entry : (o : Option Entry) → option_and_then (λ a. option_map (λ s. s.now) (slice_get a.vals.items 0)) (option_map (λ e. e.1) o) ≡ option_and_then (λ r. slice_get r.values 0) (option_map row_of o)
by_entry None = refl
by_entry (Some e) = first_text e.1.vals.items

abbrev has_id : Text → Entry → Bool
has_id id e = bytes_eq e.0.now id

value_is : (f : Found) (id : Text) → first_value f id ≡ first_of id (rows_of f)
value_is f id = by_entry (find (has_id id) f.entries.items) ∙ ap (λ (o : Option Row). option_and_then (λ r. slice_get r.values 0) o) (sym (find_row f.entries.items id))

pub same_line : (m : ArgMatches) (a b c d e : Option Text) → a ≡ first_value (found_of m) (codes "mode") → b ≡ first_value (found_of m) (codes "workers") → c ≡ first_value (found_of m) (codes "seed")
    → d ≡ first_value (found_of m) (codes "trees") → e ≡ first_value (found_of m) (codes "history") → line_from a b c d e ≡ line_of_rows (rows_of (found_of m))
same_line m a b c d e ha hb hc hd he =
    let f = found_of m in
    let pa = ha ∙ value_is f (codes "mode") in
    let pb = hb ∙ value_is f (codes "workers") in
    let pc = hc ∙ value_is f (codes "seed") in
    let pd = hd ∙ value_is f (codes "trees") in
    let pe = he ∙ value_is f (codes "history") in
    ap (λ (x : Option Text). line_from x b c d e) pa ∙ ap (λ (x : Option Text). line_from (first_of (codes "mode") (rows_of f)) x c d e) pb
    ∙ ap (λ (x : Option Text). line_from (first_of (codes "mode") (rows_of f)) (first_of (codes "workers") (rows_of f)) x d e) pc
    ∙ ap (λ (x : Option Text). line_from (first_of (codes "mode") (rows_of f)) (first_of (codes "workers") (rows_of f)) (first_of (codes "seed") (rows_of f)) x e) pd
    ∙ ap (λ (x : Option Text). line_from (first_of (codes "mode") (rows_of f)) (first_of (codes "workers") (rows_of f)) (first_of (codes "seed") (rows_of f)) (first_of (codes "trees") (rows_of f)) x) pe
