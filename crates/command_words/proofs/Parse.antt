-- What clap's answer tells of the words.
use Rattle.std.proofs.Common.{◌≡◌, ◌∙◌, true, List, [], refl, sym, ap, subst, inl, inr, ◌⊎◌, Ok, Err}
use Rattle.clap.specs.Words.{App, HasKind, HasMatchesOf, IsAmong, Text, fault_of, found_of, is_simple, is_simple_and_free, kind_of, matches_of, rows_of}
use Rattle.clap.specs.declared.error.Error.{Error}
use Rattle.clap.specs.declared.error.kind.ErrorKind.{ErrorKind}
use Rattle.clap.specs.declared.error.kind.ErrorKind.TheVariants as kind
use Rattle.clap.specs.declared.parser.matches.ArgMatches.{ArgMatches}
use Rattle.clap.proofs.OnLiterals.{clap_on_literals}
use Rattle.command_words.specs.declared.WordsError.{WordsError}
use Rattle.command_words.specs.declared.WordsError.TheVariants as errors
use Rattle.command_words.specs.Parser.{IsParse, the_app}
use Rattle.command_words.specs.inside.Parser.{refusal_of}

pub simple_free : is_simple_and_free the_app ≡ true
unfolding clap_on_literals
simple_free = refl

pub simple : is_simple the_app ≡ true
unfolding clap_on_literals
simple = refl

pub took : (a : App) (words : List Text) (m : ArgMatches) → a ≡ the_app → (is_simple_and_free a ≡ true → fault_of a words ≡ []) → HasMatchesOf a words m → IsParse (Ok m) words
took a words m e f h = (
  subst (λ (b : App). fault_of b words ≡ []) e (f (subst (λ (b : App). is_simple_and_free b ≡ true) (sym e) simple_free)),
  subst (λ (b : App). rows_of (found_of m) ≡ matches_of b words) e (h (subst (λ (b : App). is_simple b ≡ true) (sym e) simple)).0,
)

told : (w : WordsError) (k : ErrorKind) (words : List Text) → w ≡ refusal_of k → (k ≡ kind.OutOfMemory) ⊎ IsAmong k (fault_of the_app words) → IsParse (Err w) words
told errors.NoMemory k words is h = tt
told errors.Refused k words is (inl e) = λ none. let bad : errors.Refused ≡ errors.NoMemory = is ∙ ap refusal_of e in absurd cc
told errors.Refused k words is (inr among) = λ none. subst (IsAmong k) none among

pub refused : (a : App) (words : List Text) (w : WordsError) (e : Error) → a ≡ the_app → w ≡ refusal_of (kind_of e) → (is_simple_and_free a ≡ true → HasKind (fault_of a words) e) → IsParse (Err w) words
refused a words w e is told_is h =
    told w (kind_of e) words told_is (subst (λ (b : App). HasKind (fault_of b words) e) is (h (subst (λ (b : App). is_simple_and_free b ≡ true) (sym is) simple_free)))
