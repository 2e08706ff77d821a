pub mod RuleText
pub mod ReportText
