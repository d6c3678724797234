-- Options that are made of a URL.
use Rattle.log.specs.declared.level.LevelFilter.TheVariants.{Debug, Warn}
use Rattle.url.specs.Parts.{Parts}
use Rattle.sqlx_any.specs.declared.options.AnyConnectOptions.{AnyConnectOptions}

-- the URL, with statements logged at Debug, and at Warn from a second on
abbrev pub with_default_log : Parts → AnyConnectOptions
with_default_log url = record {
  database_url = url;
  log_settings = record { statements_level = Debug; slow_statements_level = Warn; slow_statements_duration = 1_000_000_000 };
}
