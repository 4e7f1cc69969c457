-- What the structs hold that borrow from a text.
use Rattle.std.specs.Prelude.{ℕ, List, Option, Some, None, option_copied, Result, Ok, Err}
use Rattle.std.specs.Borrow.{Bor}
use Rattle.submodule.specs.declared.url.Url.{Url}
use Rattle.submodule.specs.declared.url.UrlError.{UrlError}
use Rattle.submodule.specs.declared.url_parts.UrlParts.{UrlParts}
use Rattle.submodule.specs.declared.url_parts.HostAndPort.{HostAndPort}
use Rattle.submodule.specs.Urls.{HostAndPortText, host_and_port_text}

-- a url of the bytes that its parts borrow from the text
abbrev pub url_of_parts : UrlParts → Url
url_of_parts p = record { scheme = p.scheme.now; user = option_copied p.user; password = option_copied p.password; host = option_copied p.host; port = p.port; path = p.path.now }

-- a url of the bytes that its parts borrow, or the refusal of its text
abbrev pub url_of_parts_result : Result UrlParts UrlError → Result Url UrlError
url_of_parts_result (Ok p) = Ok (url_of_parts p)
url_of_parts_result (Err e) = Err e

-- the bytes of a host and of the text of its port, not yet read as a number
abbrev pub host_and_port_text_of_parts : HostAndPort → HostAndPortText
host_and_port_text_of_parts p = host_and_port_text p.host.now p.port.now

-- two parts of a text
abbrev pub optional_pair_of_references : Option (Bor (List ℕ) × Bor (List ℕ)) → Option (List ℕ × List ℕ)
optional_pair_of_references None = None
optional_pair_of_references (Some split) = Some (split.0.now, split.1.now)
