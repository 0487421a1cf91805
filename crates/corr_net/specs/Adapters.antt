-- Objects over real files and sockets, which tell nothing of what they give or get. This project's own.
use Rattle.std.specs.Prelude.{◌≡◌, Bool, true, Result, Err}
use Rattle.corr_site.specs.declared.answers.Next.{Next}
use Rattle.corr_site.specs.declared.answers.Next.TheVariants as next
use Rattle.corr_site.specs.declared.answers.Failed.{Failed}

-- a source that failed before fails again
abbrev pub FailsAgain : Bool → Next → Type 0
FailsAgain broken result = broken ≡ true → result ≡ next.Failed
