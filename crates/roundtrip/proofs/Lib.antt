mod Accounting
