-- What holds of each kind of declaration. Everything else that depends on a kind rests on this, so a new kind is dealt with here.
use Rattle.std.proofs.Common.{◌≡◌, ℕ, Bool, false, cond, ◌||◌, Option, Some, None, refl, sym, ap, ◌∙◌}
use Rattle.std.specs.Option.{option_map}
use Rattle.gt_model.specs.declared.script.What.{What}
use Rattle.gt_model.specs.declared.context.Form.{Form}
use Rattle.gt_model.specs.Script.{names_timer, names_func, names_chan, names_mutex, names_wg, names_cond, names_ctx, names_hook, names_error, named_form, can_end, takes_cause}
use Rattle.gt_model.specs.Good.{is_function}
use Rattle.gt_lines.specs.Words.{next}
use Rattle.gt_table.specs.declared.form.Kind.{Kind}
use Rattle.gt_table.specs.Forms.{ends, takes_cause as form_takes_cause, is_kind_function, is_kind_setting, is_kind_timer, is_kind_chan, is_kind_source, is_kind_mutex, is_kind_wg, is_kind_cond, is_kind_ctx, is_kind_endable, is_kind_causable, is_kind_hook, is_kind_error}
use Rattle.gt_names.specs.Names.{Names, functions_with}
use Rattle.gt_grammar.proofs.Rightly.{ctx_form, kind_in, Starts}

-- a declaration passes a test of the model where its kind passes that of the reader
pub record IsOfKind (what : What) : Type 0 where
  pub setting : (names_timer (Some what) || names_func (Some what)) ≡ is_kind_setting (kind_in what)
  pub source : (names_timer (Some what) || names_chan (Some what) || can_end (named_form (Some what))) ≡ is_kind_source (kind_in what)
  pub timer : names_timer (Some what) ≡ is_kind_timer (kind_in what)
  pub chan : names_chan (Some what) ≡ is_kind_chan (kind_in what)
  pub mutex : names_mutex (Some what) ≡ is_kind_mutex (kind_in what)
  pub wg : names_wg (Some what) ≡ is_kind_wg (kind_in what)
  pub condition : names_cond (Some what) ≡ is_kind_cond (kind_in what)
  pub context : names_ctx (Some what) ≡ is_kind_ctx (kind_in what)
  pub endable : can_end (named_form (Some what)) ≡ is_kind_endable (kind_in what)
  pub causable : takes_cause (named_form (Some what)) ≡ is_kind_causable (kind_in what)
  pub hook : names_hook (Some what) ≡ is_kind_hook (kind_in what)
  pub error : names_error (Some what) ≡ is_kind_error (kind_in what)
  pub function : is_function what ≡ is_kind_function (kind_in what)
  pub functions : (f : ℕ) → functions_with (kind_in what) f ≡ cond (is_function what) (next f) f

-- what the word of a form tells of a context
ends-is : (form : Form) → can_end (Some form) ≡ ends (Some (ctx_form form))
ends-is Form.Cancel = refl
ends-is Form.Cause = refl
ends-is (Form.Timeout d cause) = refl
ends-is Form.Without = refl

takes_cause-is : (form : Form) → takes_cause (Some form) ≡ form_takes_cause (Some (ctx_form form))
takes_cause-is Form.Cancel = refl
takes_cause-is Form.Cause = refl
takes_cause-is (Form.Timeout d cause) = refl
takes_cause-is Form.Without = refl

-- the first clause makes the last one stand for each other kind alone
pub is_of_kind : (what : What) → IsOfKind what
is_of_kind What.Timer = record {
  setting = refl;
  source = refl;
  timer = refl;
  chan = refl;
  mutex = refl;
  wg = refl;
  condition = refl;
  context = refl;
  endable = refl;
  causable = refl;
  hook = refl;
  error = refl;
  function = refl;
  functions = λ f. refl;
}
is_of_kind (What.Ctx parent form) = record {
  setting = refl;
  source = ends-is form;
  timer = refl;
  chan = refl;
  mutex = refl;
  wg = refl;
  condition = refl;
  context = refl;
  endable = ends-is form;
  causable = takes_cause-is form;
  hook = refl;
  error = refl;
  function = refl;
  functions = λ f. refl;
}
is_of_kind _ = record {
  setting = refl;
  source = refl;
  timer = refl;
  chan = refl;
  mutex = refl;
  wg = refl;
  condition = refl;
  context = refl;
  endable = refl;
  causable = refl;
  hook = refl;
  error = refl;
  function = refl;
  functions = λ f. refl;
}

-- what a line declares that opens nothing is no function
pub no_function : (names : Names) (what : What) → Starts names what → is_function what ≡ false
no_function names What.Function s = absurd s
no_function names _ s = refl

pub started : (names : Names) (what : What) → Starts names what → is_kind_function (kind_in what) ≡ false
started names what s = sym (is_of_kind what).function ∙ no_function names what s

pub starts_functions : (names : Names) (what : What) (f : ℕ) → Starts names what → functions_with (kind_in what) f ≡ f
starts_functions names what f s = (is_of_kind what).functions f ∙ ap (λ b. cond b (next f) f) (no_function names what s)

kind-is : (what : What) (k : Kind) → Some (kind_in what) ≡ Some k → kind_in what ≡ k
kind-is what k h = cc

-- a test of what is declared as a kind is one of that kind
pub by_kind : (test : Option What → Bool) (holds : Kind → Bool) → ((what : What) → test (Some what) ≡ holds (kind_in what)) → (o : Option What) (k : Kind) → option_map kind_in o ≡ Some k → test o ≡ holds k
by_kind test holds each None k h = cc
by_kind test holds each (Some what) k h = each what ∙ ap holds (kind-is what k h)
