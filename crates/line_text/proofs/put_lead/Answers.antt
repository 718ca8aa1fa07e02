-- `line_text::put_lead` meets its contract: by the kind of what is asked. Assumes nothing.
use mathlib.Core.Path.{sym, subst}
use Rattle.views.specs.Asking.{asked_of}
use Rattle.resolution.specs.Answer.{asked_lead, lead_of}
use Rattle.line_text.specs.Lines.{LeadPut}
use Rattle.line_text.proofs.put_lead.Goals as goal

pub returns-in-Expr : goal.returns-in-Expr
unfolding asked_lead lead_of
returns-in-Expr c =
    subst (λ q. LeadPut (asked_lead (asked_of q)) c.args.out.now c.put_fields.new.out) (sym c.in-Expr.is) c.put_fields.ensures

pub returns-in-Def : goal.returns-in-Def
unfolding asked_lead lead_of
returns-in-Def c =
    subst (λ q. LeadPut (asked_lead (asked_of q)) c.args.out.now c.put_fields-in-Def.new.out) (sym c.in-Def.is) c.put_fields-in-Def.ensures

pub returns-in-Type : goal.returns-in-Type
unfolding asked_lead lead_of
returns-in-Type c =
    subst (λ q. LeadPut (asked_lead (asked_of q)) c.args.out.now c.put_fields-in-Type.new.out) (sym c.in-Type.is) c.put_fields-in-Type.ensures

pub returns-in-At : goal.returns-in-At
unfolding asked_lead lead_of
returns-in-At c =
    subst (λ q. LeadPut (asked_lead (asked_of q)) c.args.out.now c.put_fields-in-At.new.out) (sym c.in-At.is) c.put_fields-in-At.ensures
