-- The names of what a history may fail in.
use Rattle.std.specs.Prelude.{ℕ, List, codes}
use Rattle.board_rules.specs.declared.rule_names.Rule.{Rule}
use Rattle.board_rules.specs.declared.rule_names.Rule.TheVariants as judged
use Rattle.history_audit.specs.declared.rules.AuditRule.{AuditRule}
use Rattle.history_audit.specs.declared.rules.AuditRule.TheVariants as rules

-- the word that is printed for a rule
abbrev pub rule_name : Rule → List ℕ
rule_name judged.Born = codes "Born"
rule_name judged.Did = codes "Did"
rule_name judged.Turned = codes "Turned"
rule_name judged.Showed = codes "Showed"
rule_name judged.Swept = codes "Swept"
rule_name judged.Fits = codes "Fits"
rule_name judged.Right = codes "Right"
rule_name judged.AtOnce = codes "AtOnce"

abbrev pub audit_rule_name : AuditRule → List ℕ
audit_rule_name rules.Text = codes "Text"
audit_rule_name rules.Postal = codes "Postal"
audit_rule_name (rules.Judged rule) = rule_name rule
audit_rule_name rules.End = codes "End"
