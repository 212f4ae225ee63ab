mod ReportRows
