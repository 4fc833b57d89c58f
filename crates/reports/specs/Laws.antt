-- Laws of reports.
pub mod Reporting
